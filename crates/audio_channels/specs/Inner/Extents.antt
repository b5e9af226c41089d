-- How much of a residue is read, as the program holds it. Assumes nothing: these are definitions.
use Rattle.std.specs.Prelude.{ℕ, Bool, List, [], ◌≡◌}
use Rattle.mapping.specs.Content.{Mapping}
use Rattle.residue.specs.Content.{Residue}
use Rattle.residue.specs.Reading.{with_plan}
use Rattle.residue.specs.Inner.Heads.{head_of}
use Rattle.residue.specs.declared.head.Head.{Head}
use Rattle.residue_requests.specs.Requests.{partition_count}
use Rattle.audio.specs.Channels.{channels_of, live_of, vector_size, vector_count}

-- the residue whose fields before the plan are h, with no plan: how much is read does not depend on it
abbrev pub head_residue : Head → Residue
head_residue h = with_plan (head_of h) []

-- a submap's residue has so many vectors, and each so many partitions
pub record ExtentIs (half : ℕ) (m : Mapping) (channels : ℕ) (live : List Bool) (submap : ℕ) (h : Head) (vectors partitions : ℕ) : Type 0 where
  pub vectors_are : vectors ≡ vector_count (head_residue h) (live_of m live submap)
  pub partitions_are : partitions ≡ partition_count (head_residue h) (vector_size (head_residue h) half (channels_of m channels submap))
