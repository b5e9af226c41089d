-- What a number of a lent buffer is: there is a zero, and numbers are joined so that zero comes out exactly where both are zero.
use Rattle.std.specs.Prelude.{ℕ, ◌≡◌}
use native.Mathlib.Omega.{arith}
use lib.Bits.{bit_or, or_zero_l, or_add_and, and_le_l, and_le_r}

pub record JoinLaws {A : Type 0} (zero : A) (joined : A → A → A) : Type 0 where
  pub none : joined zero zero ≡ zero
  pub both : (a b : A) → joined a b ≡ zero → (a ≡ zero) × (b ≡ zero)

-- so are numbers by their bits
pub or_laws : JoinLaws {A = ℕ} 0 bit_or
or_laws = record {
  none = or_zero_l 0;
  both = λ a b e. (omega (arith, or_add_and a b, and_le_r a b), omega (arith, or_add_and a b, and_le_l a b));
}
