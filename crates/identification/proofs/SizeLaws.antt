-- The exponents that a block size may have, and the shift by one. Assumes nothing.
use Prim.Native.Nat.{ℕ, ◌*◌, ◌^◌, ◌%◌, ◌≤◌, ◌<◌}
use native.Mathlib.Nat.{lt_of_lt_of_le, lt_of_le_of_lt, one-mul}
use native.Mathlib.Omega.{arith}
use borrow.Author.Tests.{le-leb, lt-leb}
use mathlib.Core.Bool.{true, false, ◌&&◌}
use mathlib.Core.Path.{◌≡◌, ◌∙◌}
use lib.Dec.{leb}
use lib.Pow.{pow_mono, shl_exact}

pub small : (e : ℕ) → e < 6 → leb 64 (2 ^ e) && leb (2 ^ e) 8192 ≡ false
small e h = let l : 2 ^ e < 64 = lt_of_le_of_lt (pow_mono {i = e} {j = 5} (omega arith)) (omega arith) in rw (lt-leb _ _ l)

pub large : (e : ℕ) → 13 < e → leb 64 (2 ^ e) && leb (2 ^ e) 8192 ≡ false
large e h =
    let l : 8192 < 2 ^ e = lt_of_lt_of_le (omega arith) (pow_mono {i = 14} {j = e} h) in
    let m : 64 ≤ 2 ^ e = omega arith in
    rw (le-leb _ _ m, lt-leb _ _ l)

pub between : (e : ℕ) → 6 ≤ e → e ≤ 13 → leb 64 (2 ^ e) && leb (2 ^ e) 8192 ≡ true
between e h g = rw (le-leb _ _ (pow_mono {i = 6} {j = e} h), le-leb _ _ (pow_mono {i = e} {j = 13} g))

-- 1 << e, as the machine computes it
pub one_shifted : (e : ℕ) → e ≤ 13 → (1 * 2 ^ e) % 2 ^ 32 ≡ 2 ^ e
one_shifted e h = shl_exact {a = 1} 1 e 32 (omega arith) (omega arith) ∙ one-mul (2 ^ e)

pub ruleset size_laws = (small, large, between, one_shifted)
