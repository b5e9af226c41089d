-- Worked examples: powers against bounds, and a packet that holds one residue, with what is said of it where one field is another.
use Rattle.std.specs.Prelude.{ℕ, ◌^◌, true, false, List, [], ◌∷◌, ◌≡◌, refl, leb}
use Rattle.reading.specs.Outcome.{refusal, ok, bad}
use Rattle.reading.specs.Reader.{many, each, mapped}
use Rattle.reading.specs.Lists.{all, rows}
use Rattle.bits.specs.Field.{bit_at, value_at, field}
use Rattle.residue.specs.Reading.{Books, cascade, plan_book, plan_row, place_fits, residue_fits, head_from, head, residue_from, residue}

pub record PowerVectors : Type 0 where
  pub at_bound : leb (3 ^ 4) 81 ≡ true
  pub past_bound : leb (3 ^ 4) 80 ≡ false
  pub of_one : leb (1 ^ 65535) 1 ≡ true
  pub of_one_past : leb (1 ^ 65535) 0 ≡ false
  pub of_none : leb (0 ^ 65535) 0 ≡ true
  pub no_factor : leb (0 ^ 0) 0 ≡ false
  pub large : leb (64 ^ 65535) 4294967295 ≡ false

pub powers : PowerVectors
powers = record { at_bound = refl; past_bound = refl; of_one = refl; of_one_past = refl; of_none = refl; no_factor = refl; large = refl }

-- one book of 2 dimensions and 4 entries, with values
abbrev one_book : Books
one_book = record { count = 1; dimensions = λ b. 2; entries = λ b. 4; lookup = λ b. 1 }

-- one class, class book 0, and a book at pass 0, whose number is 64 times the last argument; end is 32, partition size one more than the third
abbrev packet : ℕ → ℕ → ℕ → ℕ → List ℕ
packet type begin size book = type ∷ 0 ∷ begin ∷ 0 ∷ 0 ∷ 32 ∷ 0 ∷ 0 ∷ size ∷ 0 ∷ 0 ∷ 0 ∷ 64 ∷ 0 ∷ book ∷ 0 ∷ []

pub record ResidueVectors : Type 0 where
  pub accepted : residue one_book (packet 1 0 7 0) 0
      ≡ ok (record { type = 1; begin = 0; end = 32; size = 8; classifications = 1; classbook = 0; plan = (1 ∷ 0 ∷ 0 ∷ 0 ∷ 0 ∷ 0 ∷ 0 ∷ 0 ∷ []) ∷ [] }, 114)
  pub begin_at_end : residue one_book (packet 1 32 7 0) 0
      ≡ ok (record { type = 1; begin = 32; end = 32; size = 8; classifications = 1; classbook = 0; plan = (1 ∷ 0 ∷ 0 ∷ 0 ∷ 0 ∷ 0 ∷ 0 ∷ 0 ∷ []) ∷ [] }, 114)
  pub begin_above_end : residue one_book (packet 1 33 7 0) 0 ≡ bad (refusal 13 0)
  pub type_3 : residue one_book (packet 3 0 7 0) 0 ≡ bad (refusal 10 0)
  pub size_7 : residue one_book (packet 1 0 6 0) 0 ≡ bad (refusal 13 0)
  -- a book that is not set up goes before rule 13
  pub book_not_set_up : residue one_book (packet 1 33 7 1) 0 ≡ bad (refusal 11 106)

pub residues : ResidueVectors
unfolding residue residue_from head head_from many each mapped cascade plan_book plan_row place_fits residue_fits all rows field value_at bit_at
residues = record { accepted = refl; begin_at_end = refl; begin_above_end = refl; type_3 = refl; size_7 = refl; book_not_set_up = refl }
