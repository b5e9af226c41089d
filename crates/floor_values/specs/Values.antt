-- Floor type 1 in an audio packet: the values that are read for it, by 004's steps ("packet decode"; 01, "Audio order" 2). The numbers in comments are 004's
-- steps. `lengths_of` gives the entry lengths of a codebook by its number. A missing bit is refusal 1 at the first bit of what is cut.
-- Assumes nothing: these are definitions.
use Rattle.std.specs.Prelude.{ℕ, ◌-◌, Bool, true, false, cond, List, ◌++◌, eqb, get_or}
use Rattle.std.proofs.Math.Option.{Option, none, some}
use Rattle.std.proofs.lemmas.List.Edits.{sets}
use Rattle.reading.specs.Outcome.{ok, then}
use Rattle.reading.specs.Reader.{Reader, many, each, mapped}
use Rattle.reading.specs.Lists.{rows}
use Rattle.bits.specs.Field.{field}
use Rattle.bits.specs.Ilog.{ilog}
use Rattle.floor.specs.Content.{Floor, no_class}
use Rattle.floor_partition.specs.Partition.{partition, whole}
use Rattle.floor_points.specs.FinalY.{range_of}

-- 1 to 3: how many bits each of the first two values has; the range goes with the multiplier
unfoldable pub first_bits : ℕ → ℕ
first_bits multiplier = ilog (range_of multiplier - 1)

-- 6: of a partition whose class has number p
unfoldable pub partition_of : (ℕ → List ℕ) → Floor → ℕ → Reader (List ℕ)
partition_of lengths_of f p = partition lengths_of (get_or f.classes p no_class)

-- 1 to 20: the values of a floor that is used
unfoldable pub used_values : (ℕ → List ℕ) → Floor → Reader (List ℕ)
used_values lengths_of f s k =
    then (many (field (first_bits f.multiplier)) 2 s k) (λ first.
    then (each (partition_of lengths_of f) f.partitions s first.1) (λ later.
    ok (first.0 ++ rows whole later.0, later.1)))

-- THE VALUES OF A FLOOR: none where the flag "nonzero" is unset, that is, where the floor is unused in this packet
unfoldable pub floor_values : (ℕ → List ℕ) → Floor → Reader (Option (List ℕ))
floor_values lengths_of f s k =
    then (field 1 s k) (λ nonzero.
    cond (eqb nonzero.0 0) (ok (none, nonzero.1)) (mapped some (used_values lengths_of f s nonzero.1)))

-- what the program answers, whether the floor is used, with the lent list beside it
abbrev pub with_values : List ℕ → Bool → Bool × List ℕ
with_values list used = (used, list)

-- as the program answers them: whether the floor is used, and the lent list with the values at its front
unfoldable pub answered_values : List ℕ → Option (List ℕ) → Bool × List ℕ
answered_values entry none = (false, entry)
answered_values entry (some ys) = (true, sets entry 0 ys)
