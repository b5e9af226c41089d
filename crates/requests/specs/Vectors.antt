-- Worked examples.
use Rattle.std.specs.Prelude.{ℕ, cond, List, [], ◌∷◌, ◌≡◌, refl, eqb}
use Rattle.std.proofs.Math.Option.{none, some}
use Rattle.reading.specs.Least.{lowest}
use Rattle.reading.specs.Outcome.{refusal, Outcome, ok, bad}
use Rattle.reading.specs.Reader.{mapped}
use Rattle.bits.specs.Field.{bit_at, value_at, field}
use Rattle.codeword_assignment.specs.Book.{used, is_used, is_lone, first_used}
use Rattle.codeword.specs.Codeword.{codeword}
use Rattle.requests.specs.Requests.{Place, number, word, floor, class, vector, Requests, done, request, bind, many, each}
use Rattle.requests.specs.Run.{read, item, ended, run}
use Rattle.requests.specs.Values.{whole_values}
use Rattle.requests.specs.Refusing.{and_then, in_turn, values_of, came_to}

-- every book has a sole used entry, its second, which takes one bit, of either value (02, wish 3)
abbrev lengths_of : ℕ → List ℕ
lengths_of b = 0 ∷ 1 ∷ []

abbrev first : Place
first = record { submap = 0; vector = 0; partition = 0; index = 0 }

pub record RunVectors : Type 0 where
  -- the packet of four bytes of 000, 2.1.6, of which 5 bits are left where 6 are asked for: what follows is not read, though it has fewer bits
  pub cut :
      run (read lengths_of) (each (λ w. request (number w)) (4 ∷ 3 ∷ 7 ∷ 13 ∷ 6 ∷ 1 ∷ [])) (252 ∷ 72 ∷ 206 ∷ 6 ∷ []) 0
      ≡ ended (item (number 4) 12 ∷ item (number 3) 7 ∷ item (number 7) 17 ∷ item (number 13) 6969 ∷ []) 27 none
  -- a count of 2 bits, then as many numbers of 3 bits
  pub counted :
      run (read lengths_of) (bind (request (number 2)) (λ n. many (request (number 3)) n)) (0b10111010 ∷ []) 0
      ≡ ended (item (number 2) 2 ∷ item (number 3) 6 ∷ item (number 3) 5 ∷ []) 8 (some (6 ∷ 5 ∷ []))
  -- three such trees, of numbers of 3, 8 and 0 bits: the second is cut behind its count
  pub whole_before_cut : whole_values (read lengths_of) (λ w. bind (request (number 2)) (λ n. many (request (number w)) n)) (3 ∷ 8 ∷ 0 ∷ []) (0b10111010 ∷ 1 ∷ []) 0 ≡ (6 ∷ 5 ∷ []) ∷ []
  -- a sole entry is read by a 1, by a 0, and by the packet's last bit
  pub lone :
      run (read lengths_of) (bind (many (request (word 3 floor)) 2) (λ _. bind (request (number 5)) (λ _. request (word 5 class)))) (0b01001101 ∷ []) 0
      ≡ ended (item (word 3 floor) 1 ∷ item (word 3 floor) 1 ∷ item (number 5) 19 ∷ item (word 5 class) 1 ∷ []) 8 (some 1)
  -- at the exact end of a packet it is cut, where a number of 0 bits is there
  pub lone_at_the_end : run (read lengths_of) (bind (request (number 8)) (λ _. request (word 5 class))) (9 ∷ []) 0 ≡ ended (item (number 8) 9 ∷ []) 8 none
  pub no_bits_at_the_end :
      run (read lengths_of) (bind (request (number 8)) (λ _. request (number 0))) (9 ∷ []) 0 ≡ ended (item (number 8) 9 ∷ item (number 0) 0 ∷ []) 8 (some 0)
  -- behind a cut it is not read, though there are bits
  pub lone_after_cut :
      run (read lengths_of) (bind (request (word 3 (vector first))) (λ _. bind (request (number 9)) (λ _. request (word 5 (vector first))))) (9 ∷ []) 0
      ≡ ended (item (word 3 (vector first)) 1 ∷ []) 1 none

-- a number of w bits, which refuses 3 with number 21
abbrev not_three : ℕ → Requests (Outcome ℕ)
not_three w = bind (request (number w)) (λ v. cond (eqb v 3) (done (bad (refusal 21 0))) (done (ok v)))

pub record RefusingVectors : Type 0 where
  -- numbers of 2, 2 and 4 bits, of which the second is 3: it was read, the third is not asked for, and the first stands
  pub refused :
      run (read lengths_of) (in_turn not_three (2 ∷ 2 ∷ 4 ∷ [])) (0b10011101 ∷ []) 0
      ≡ ended (item (number 2) 1 ∷ item (number 2) 3 ∷ []) 4 (some (bad (refusal 21 0)))
  pub comes_to_refusal : came_to (run (read lengths_of) (in_turn not_three (2 ∷ 2 ∷ 4 ∷ [])) (0b10011101 ∷ []) 0) ≡ bad (refusal 21 0)
  pub stands_before_refusal : values_of (whole_values (read lengths_of) not_three (2 ∷ 2 ∷ 4 ∷ []) (0b10011101 ∷ []) 0) ≡ 1 ∷ []
  -- none is 3; and a cut, which is refusal 1 at the first bit of what is cut
  pub whole : came_to (run (read lengths_of) (in_turn not_three (2 ∷ 2 ∷ 4 ∷ [])) (0b10010001 ∷ []) 0) ≡ ok (1 ∷ 0 ∷ 9 ∷ [], 8)
  pub cut : came_to (run (read lengths_of) (in_turn not_three (2 ∷ 2 ∷ 5 ∷ [])) (0b10010001 ∷ []) 0) ≡ bad (refusal 1 4)

pub runs : RunVectors
unfolding whole_values run read request bind many each field value_at bit_at codeword mapped used is_used is_lone first_used lowest
runs = record { cut = refl; counted = refl; whole_before_cut = refl; lone = refl; lone_at_the_end = refl; no_bits_at_the_end = refl; lone_after_cut = refl }

pub refusing : RefusingVectors
unfolding whole_values run read request bind field value_at bit_at mapped and_then in_turn values_of came_to
refusing = record { refused = refl; comes_to_refusal = refl; stands_before_refusal = refl; whole = refl; cut = refl }
