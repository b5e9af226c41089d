-- Laws of how much of a residue is read: each way out of the functions of src/extent.rt. Assumes nothing.
use Prim.Native.Nat.{ℕ}
use mathlib.Core.Bool.{Bool}
use mathlib.Core.List.{List}
use mathlib.Core.Path.{◌≡◌, ap, ◌∙◌}
use Rattle.residue.specs.declared.head.Head.{Head}
use Rattle.mapping.specs.Content.{Mapping}
use Rattle.residue_requests.specs.Requests.{partition_count}
use Rattle.audio.specs.Channels.{channels_of, live_of, vector_size, vector_count}
use Rattle.audio_channels.specs.Inner.Extents.{head_residue, ExtentIs}

-- with the size that they were counted for
pub of_size : (h : Head) (half channels : ℕ) {p s : ℕ} → p ≡ partition_count (head_residue h) s → s ≡ vector_size (head_residue h) half channels
    → p ≡ partition_count (head_residue h) (vector_size (head_residue h) half channels)
of_size h half channels q e = q ∙ ap (partition_count (head_residue h)) e

-- how much of a submap's residue is read
pub extent_is : {half : ℕ} (m : Mapping) (channels : ℕ) (live : List Bool) (submap : ℕ) (h : Head) {all some vectors partitions : ℕ}
    → all ≡ channels_of m channels submap → some ≡ live_of m live submap → vectors ≡ vector_count (head_residue h) some
    → partitions ≡ partition_count (head_residue h) (vector_size (head_residue h) half all) → ExtentIs half m channels live submap h vectors partitions
extent_is {half} m channels live submap h a b c d =
    record {
      vectors_are = c ∙ ap (vector_count (head_residue h)) b;
      partitions_are = d ∙ ap (λ (k : ℕ). partition_count (head_residue h) (vector_size (head_residue h) half k)) a;
    }
