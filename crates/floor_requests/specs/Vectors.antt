-- Worked examples, with the books, the floor and the packets of `floor_values`' examples: the books have a sole used entry each, which takes one bit; book 0 gives 2,
-- every other book gives 1.
use Rattle.std.specs.Prelude.{ℕ, zero, suc, List, [], ◌∷◌, ◌≡◌, refl}
use Rattle.std.proofs.Math.Option.{none, some}
use Rattle.reading.specs.Least.{lowest}
use Rattle.reading.specs.Lists.{rows}
use Rattle.reading.specs.Reader.{mapped}
use Rattle.bits.specs.Field.{bit_at, value_at, field}
use Rattle.bits.specs.Ilog.{highest_set, ilog}
use Rattle.codeword_assignment.specs.Book.{used, is_used, is_lone, first_used}
use Rattle.codeword.specs.Codeword.{codeword}
use Rattle.floor.specs.Content.{Floor}
use Rattle.floor_points.specs.FinalY.{range_of}
use Rattle.floor_partition.specs.Partition.{chosen, whole}
use Rattle.floor_values.specs.Values.{first_bits}
use Rattle.requests.specs.Requests.{number, word, floor, request, bind, many, each}
use Rattle.requests.specs.Run.{read, item, ended, run}
use Rattle.floor_requests.specs.Requests.{class_requests, value_requests, partition_requests, used_requests, unused, values, floor_requests}

abbrev lengths_of : ℕ → List ℕ
lengths_of zero = 0 ∷ 0 ∷ 1 ∷ []
lengths_of (suc b) = 0 ∷ 1 ∷ []

-- one partition of two values; its master book is book 0, its first subclass has no book, its second has book 1
abbrev small : Floor
small =
    record {
      partitions = 0 ∷ [];
      classes = record { dimensions = 2; subclasses = 1; master = 1; books = 0 ∷ 2 ∷ [] } ∷ [];
      multiplier = 4;
      rangebits = 4;
      xs = 3 ∷ 9 ∷ [];
    }

pub record FloorVectors : Type 0 where
  -- the flag, 5 and 33 in 6 bits each; then the class value 2, by a 1, whose digits 0 and 1 choose no book and book 1, by a 0
  pub used_floor :
      run (read lengths_of) (floor_requests small) (0b10001011 ∷ 0b00110000 ∷ []) 0
      ≡ ended (item (number 1) 1 ∷ item (number 6) 5 ∷ item (number 6) 33 ∷ item (word 0 floor) 2 ∷ item (word 1 floor) 1 ∷ []) 15 (some (values (5 ∷ 33 ∷ 0 ∷ 1 ∷ [])))
  -- the same from bit 2 on and from bit 3 on: the packet ends before the bit of the second value, and before that of the class value
  pub cut_value :
      run (read lengths_of) (floor_requests small) (0b00101100 ∷ 0b11000010 ∷ []) 2
      ≡ ended (item (number 1) 1 ∷ item (number 6) 5 ∷ item (number 6) 33 ∷ item (word 0 floor) 2 ∷ []) 16 none
  pub cut_class_value :
      run (read lengths_of) (floor_requests small) (0b01011000 ∷ 0b10000100 ∷ []) 3
      ≡ ended (item (number 1) 1 ∷ item (number 6) 5 ∷ item (number 6) 33 ∷ []) 16 none
  -- the second value is cut after its first bit
  pub cut_floor : run (read lengths_of) (floor_requests small) (139 ∷ []) 0 ≡ ended (item (number 1) 1 ∷ item (number 6) 5 ∷ []) 7 none
  pub unused_floor : run (read lengths_of) (floor_requests small) (138 ∷ []) 0 ≡ ended (item (number 1) 0 ∷ []) 1 (some unused)

pub vectors : FloorVectors
unfolding floor_requests used_requests partition_requests class_requests value_requests run read request bind many each first_bits chosen whole rows mapped field value_at bit_at ilog highest_set range_of codeword first_used used is_used is_lone lowest
vectors = record { used_floor = refl; cut_value = refl; cut_class_value = refl; cut_floor = refl; unused_floor = refl }
