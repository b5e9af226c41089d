-- Laws of numbers, tests and lists that stand under no definition of ours. Assumes nothing.
use Prim.Native.Nat.{ℕ, zero, suc, ◌*◌, ◌^◌, ◌≤◌, ◌<◌}
use native.Mathlib.Nat.{mul-le-mul, pow-suc}
use native.Mathlib.Omega.{arith}
use borrow.Author.Tests.{eqb-false, not-true}
use mathlib.Core.Bool.{true, not}
use mathlib.Core.List.{List, [], ◌∷◌}
use mathlib.Core.Path.{◌≡◌, refl}
use lib.Dec.{eqb}
use lib.ListN.{length}

-- a number other than 0, known or tested
pub other_than_zero : (v : ℕ) → (v ≡ 0 → ⊥) → 1 ≤ v
other_than_zero zero n = absurd (n refl)
other_than_zero (suc v) n = omega arith

pub tested_above_zero : (v : ℕ) → not (eqb v 0) ≡ true → 1 ≤ v
tested_above_zero v t = other_than_zero v (eqb-false v 0 (not-true (eqb v 0) t))

-- the product of two numbers of 32 bits fits 64 bits
pub product_fits : (a b : ℕ) → a < 4294967296 → b < 4294967296 → a * b < 18446744073709551616
product_fits a b p q = omega (arith, mul-le-mul {n₁ = a} {m₁ = b} {n₂ = 4294967295} {m₂ = 4294967295} (omega arith) (omega arith))

pub one_power : (n : ℕ) → 1 ^ n ≡ 1
one_power zero = refl
one_power (suc n) = rw (pow-suc, one_power n)

-- a list of length 0
pub length_zero : (l : List ℕ) → length l ≡ 0 → l ≡ []
length_zero [] e = refl
length_zero (x ∷ l) e = absurd (omega arith)
