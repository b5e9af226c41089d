-- Laws of `is_length`, the test that a number is 1 to 32. Assumes nothing.
use mathlib.Core.Bool.{true, false}
use mathlib.Core.Path.{◌≡◌}
use Prim.Native.Nat.{ℕ}
use lib.Dec.{leb}
use borrow.Author.Tests.{le-leb, leb-true}
use Rattle.reading.proofs.Least.{and_split, no_true}
use Rattle.codespace.specs.Ledger.{is_length, IsLength}

pub is_length_lem : (len : ℕ) → IsLength len → is_length len ≡ true
unfolding is_length
is_length_lem len k = rw (le-leb 1 len k.low, le-leb len 32 k.high)

pub length_is : (len : ℕ) → is_length len ≡ true → IsLength len
unfolding is_length
length_is len t =
    let p = and_split (leb 1 len) (leb len 32) t in
    record { low = leb-true 1 len p.0; high = leb-true len 32 p.1 }

pub no_length : (len : ℕ) → (IsLength len → ⊥) → is_length len ≡ false
no_length len n = no_true (is_length len) (λ t. n (length_is len t))
