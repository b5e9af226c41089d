-- A small residue, worked out: which codewords are read, in which order, and for what.
use Rattle.std.specs.Prelude.{ℕ, ◌+◌, List, [], ◌∷◌, map, ◌≡◌, refl}
use Rattle.reading.specs.Outcome.{ok}
use Rattle.reading.specs.Reader.{Reader}
use Rattle.residue.specs.Content.{Residue}
use Rattle.requests.specs.Requests.{Role, Place, Request, word, class, vector, request, bind, many}
use Rattle.requests.specs.Run.{Item, item, run}
use Rattle.residue_requests.specs.Requests.{planned, digit, classes_of, vectors, partition, across_vectors, class_words, first_pass, later_pass, later_passes, residue_requests}

-- a packet that answers every request with the number of items before it
abbrev counted : Request → Reader ℕ
counted q s k = ok (k, k + 1)

-- partitions of 2 values; 3 classes: class 0 has no book, class 1 has book 5 in pass 0, class 2 has book 6 in passes 0 and 2
abbrev small : Residue
small =
    record {
      type = 1;
      begin = 0;
      end = 100;
      size = 2;
      classifications = 3;
      classbook = 4;
      plan =
          (0 ∷ 0 ∷ 0 ∷ 0 ∷ 0 ∷ 0 ∷ 0 ∷ 0 ∷ [])
          ∷ (6 ∷ 0 ∷ 0 ∷ 0 ∷ 0 ∷ 0 ∷ 0 ∷ 0 ∷ [])
          ∷ (7 ∷ 0 ∷ 7 ∷ 0 ∷ 0 ∷ 0 ∷ 0 ∷ 0 ∷ [])
          ∷ [];
    }

-- for the first codeword of partition p of vector v
abbrev of : ℕ → ℕ → Role
of v p = vector (record { submap = 0; vector = v; partition = p; index = 0 })

-- 3 partitions of 2 vectors, books of 2 dimensions, answers from 5 on. Class words 5 and 6 have the digits 1 2 and 2 0: partitions 0 read 7 and 8, partition 1
-- of vector 0 reads 9, that of vector 1 nothing. Class words 10 and 11 have the digits 0 1 and 0 2 and a surplus, which is dropped; their second digits are
-- past the last partition. Pass 2 reads 12 and 13, for the partitions of class 2
pub example :
    (run counted (residue_requests 0 (λ _. 2) small 2 3) [] 5).items
    ≡ item (word 4 class) 5
    ∷ item (word 4 class) 6
    ∷ item (word 5 (of 0 0)) 7
    ∷ item (word 6 (of 1 0)) 8
    ∷ item (word 6 (of 0 1)) 9
    ∷ item (word 4 class) 10
    ∷ item (word 4 class) 11
    ∷ item (word 6 (of 1 0)) 12
    ∷ item (word 6 (of 0 1)) 13
    ∷ []
unfolding run residue_requests first_pass later_pass later_passes classes_of digit across_vectors planned partition class_words vectors request bind many
example = refl
