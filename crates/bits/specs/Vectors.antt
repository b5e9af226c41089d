-- Worked examples: the packet of four bytes of 000, section 2.1.6, its fields, and 01's examples of ilog.
use Rattle.std.specs.Prelude.{ℕ, List, [], ◌∷◌, ◌≡◌, refl, pos, negsuc}
use Rattle.reading.specs.Outcome.{refusal, ok, bad}
use Rattle.bits.specs.Field.{bit_at, value_at, field}
use Rattle.bits.specs.Signed.{signed}
use Rattle.bits.specs.Ilog.{highest_set, ilog}

abbrev packet : List ℕ
packet = 0b11111100 ∷ 0b01001000 ∷ 0b11001110 ∷ 0b00000110 ∷ []

pub record FieldVectors : Type 0 where
  pub first : field 4 packet 0 ≡ ok (12, 4)
  pub second : field 3 packet 4 ≡ ok (7, 7)
  pub third : field 7 packet 7 ≡ ok (17, 14)
  pub fourth : field 13 packet 14 ≡ ok (6969, 27)
  pub cut : field 6 packet 27 ≡ bad (refusal 1 27)
  pub to_the_end : field 5 packet 27 ≡ ok (0, 32)
  pub none_at_the_end : field 0 packet 32 ≡ ok (0, 32)
  pub none_past_the_end : field 0 packet 33 ≡ bad (refusal 1 33)

pub fields : FieldVectors
unfolding field value_at bit_at
fields = record { first = refl; second = refl; third = refl; fourth = refl; cut = refl; to_the_end = refl; none_at_the_end = refl; none_past_the_end = refl }

pub record IlogVectors : Type 0 where
  pub of_0 : ilog 0 ≡ 0
  pub of_1 : ilog 1 ≡ 1
  pub of_4 : ilog 4 ≡ 3
  pub of_7 : ilog 7 ≡ 3
  pub of_largest : ilog 4294967295 ≡ 32

pub ilogs : IlogVectors
unfolding ilog highest_set
ilogs = record { of_0 = refl; of_1 = refl; of_4 = refl; of_7 = refl; of_largest = refl }

pub record SignedVectors : Type 0 where
  pub least : signed 2147483648 ≡ negsuc 2147483647
  pub minus_one : signed 4294967295 ≡ negsuc 0
  pub greatest : signed 2147483647 ≡ pos 2147483647

pub signeds : SignedVectors
signeds = record { least = refl; minus_one = refl; greatest = refl }
