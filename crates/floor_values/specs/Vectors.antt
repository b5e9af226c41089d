-- Worked examples. The books have a sole used entry each, which takes one bit: book 0 gives 2, every other book gives 1.
use Rattle.std.specs.Prelude.{ℕ, zero, suc, List, [], ◌∷◌, map, ◌≡◌, refl}
use Rattle.std.proofs.Math.Option.{none, some}
use Rattle.reading.specs.Least.{lowest}
use Rattle.reading.specs.Lists.{rows}
use Rattle.reading.specs.Outcome.{refusal, ok, bad}
use Rattle.reading.specs.Reader.{many, each, mapped}
use Rattle.bits.specs.Field.{bit_at, value_at, field}
use Rattle.bits.specs.Ilog.{highest_set, ilog}
use Rattle.codeword_assignment.specs.Book.{used, is_used, is_lone, first_used}
use Rattle.codeword.specs.Codeword.{codeword}
use Rattle.floor.specs.Content.{Floor}
use Rattle.floor_points.specs.FinalY.{range_of}
use Rattle.floor_partition.specs.Partition.{class_value, chosen, value, partition, whole}
use Rattle.floor_values.specs.Values.{first_bits, partition_of, used_values, floor_values}

abbrev lengths_of : ℕ → List ℕ
lengths_of zero = 0 ∷ 0 ∷ 1 ∷ []
lengths_of (suc b) = 0 ∷ 1 ∷ []

-- one partition of two values; its master book is book 0, its first subclass has no book, its second has book 1
abbrev floor : Floor
floor =
    record {
      partitions = 0 ∷ [];
      classes = record { dimensions = 2; subclasses = 1; master = 1; books = 0 ∷ 2 ∷ [] } ∷ [];
      multiplier = 4;
      rangebits = 4;
      xs = 3 ∷ 9 ∷ [];
    }

pub record ValueVectors : Type 0 where
  -- the flag, 5 and 33 in 6 bits each; then the class value 2, by a 1, whose digits 0 and 1 choose no book and book 1, by a 0
  pub used_floor : floor_values lengths_of floor (0b10001011 ∷ 0b00110000 ∷ []) 0 ≡ ok (some (5 ∷ 33 ∷ 0 ∷ 1 ∷ []), 15)
  -- the same from bit 2 on and from bit 3 on: the packet ends before the bit of the second value, and before that of the class value
  pub cut_value : floor_values lengths_of floor (0b00101100 ∷ 0b11000010 ∷ []) 2 ≡ bad (refusal 1 16)
  pub cut_class_value : floor_values lengths_of floor (0b01011000 ∷ 0b10000100 ∷ []) 3 ≡ bad (refusal 1 16)
  -- the second value is cut after its first bit
  pub cut_floor : floor_values lengths_of floor (139 ∷ []) 0 ≡ bad (refusal 1 7)
  pub unused_floor : floor_values lengths_of floor (138 ∷ []) 0 ≡ ok (none, 1)
  pub no_flag : floor_values lengths_of floor [] 0 ≡ bad (refusal 1 0)
  -- the ranges 256, 128, 86 and 64
  pub first_bits_is : map first_bits (1 ∷ 2 ∷ 3 ∷ 4 ∷ []) ≡ (8 ∷ 7 ∷ 7 ∷ 6 ∷ [])

pub vectors : ValueVectors
unfolding floor_values used_values first_bits class_value chosen value partition partition_of whole many each mapped rows field value_at bit_at ilog highest_set range_of codeword first_used used is_used is_lone lowest
vectors = record { used_floor = refl; cut_value = refl; cut_class_value = refl; cut_floor = refl; unused_floor = refl; no_flag = refl; first_bits_is = refl }
