-- A number in decimal: what the library writes is our `decimal`, and how many digits that has. Assumes nothing.
use Prim.Native.Nat.{ℕ, zero, suc, ◌+◌, ◌/◌, ◌%◌, ◌^◌, ◌≤◌, ◌<◌}
use native.Mathlib.Nat.{pow-suc, div-lt_iff_lt-mul}
use native.Mathlib.Omega.{arith}
use mathlib.Core.Logic.{⊎_elim}
use mathlib.Core.List.{List, [], ◌∷◌, ◌++◌}
use mathlib.Core.Path.{◌≡◌, refl, sym, ◌∙◌, ap}
use borrow.Author.Tests.{lt-ltb, le-ltb}
use lib.ListN.{length, length-append}
use Rattle.reading.proofs.Least.{lt_or_le}
use Rattle.std.specs.Fmt.{decimal as library}
use Rattle.std.proofs.lemmas.Fmt.{decimal_digit, decimal_step}
use Rattle.record_lines.specs.Text.{decimal, last_digits_of}

-- one digit, and one digit more
last : (m n : ℕ) → n < 10 → last_digits_of (suc m) n ≡ (48 + n) ∷ []
unfolding last_digits_of
last m n h = rw (lt-ltb n 10 h) refl

more : (m n : ℕ) → 10 ≤ n → last_digits_of (suc m) n ≡ last_digits_of m (n / 10) ++ ((48 + n % 10) ∷ [])
unfolding last_digits_of
more m n h = rw (le-ltb n 10 h) refl

tenth : (k n : ℕ) → n < 10 ^ suc (suc k) → n / 10 < 10 ^ suc k
tenth k n h = (div-lt_iff_lt-mul {k = 10} {x = n} {y = 10 ^ suc k} (omega arith)).1 (rw pow-suc at h)

-- the digits that the library writes are the last ones without zeros in front
same : (m n : ℕ) → n < 10 ^ suc m → n < 2 ^ 64 → library n ≡ last_digits_of (suc m) n
same zero n f h = let low : n < 10 = f in decimal_digit n low ∙ sym (last zero n low)
same (suc m) n f h =
    ⊎_elim
    (λ l. decimal_digit n l ∙ sym (last (suc m) n l))
    (λ l. decimal_step n l h ∙ ap (λ (x : List ℕ). x ++ ((48 + n % 10) ∷ [])) (same m (n / 10) (tenth m n f) (omega (arith, h))) ∙ sym (more (suc m) n l))
    (lt_or_le n 10)

pub decimal_is : (n : ℕ) → n < 18446744073709551616 → library n ≡ decimal n
unfolding decimal
decimal_is n f = same 19 n (omega (arith, f)) f

-- how many digits there are
none : (n : ℕ) → length (last_digits_of 0 n) ≡ 0
unfolding last_digits_of
none n = refl

one_digit : (m n : ℕ) → n < 10 → length (last_digits_of (suc m) n) ≡ 1
one_digit m n h = ap length (last m n h)

one_more : (m n : ℕ) → 10 ≤ n → length (last_digits_of (suc m) n) ≡ length (last_digits_of m (n / 10)) + 1
one_more m n h = ap length (more m n h) ∙ length-append (last_digits_of m (n / 10)) ((48 + n % 10) ∷ [])

-- a number below 10^k has k digits at the most
few : (m k n : ℕ) → n < 10 ^ suc k → length (last_digits_of m n) ≤ suc k
few zero k n h = omega (arith, none n)
few (suc m) zero n h = let low : n < 10 = h in omega (arith, one_digit m n low)
few (suc m) (suc k) n h = ⊎_elim (λ l. omega (arith, one_digit m n l)) (λ l. omega (arith, one_more m n l, few m k (n / 10) (tenth k n h))) (lt_or_le n 10)

any : (m n : ℕ) → length (last_digits_of m n) ≤ m
any zero n = omega (arith, none n)
any (suc m) n = ⊎_elim (λ l. omega (arith, one_digit m n l)) (λ l. omega (arith, one_more m n l, any m (n / 10))) (lt_or_le n 10)

pub short_decimal : (n : ℕ) → n < 4294967296 → length (decimal n) ≤ 10
unfolding decimal
short_decimal n h = few 20 9 n (omega (arith, h))

pub long_decimal : (n : ℕ) → length (decimal n) ≤ 20
unfolding decimal
long_decimal n = any 20 n
