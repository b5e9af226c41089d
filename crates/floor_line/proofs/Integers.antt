-- Laws of integers that are written as differences of two numbers, so that what is to be shown of a sum or an order of integers is an equation or an
-- order of numbers. Assumes nothing.
use Prim.Native.Nat.{ℕ, zero, suc, ◌+◌, ◌-◌, ◌*◌, ◌≤◌, ◌<◌}
use native.Mathlib.Nat.{sub-zero}
use native.Mathlib.Omega.{arith}
use mathlib.Core.Logic.{⊎_elim}
use mathlib.Core.Path.{◌≡◌, refl, sym, ap, ◌∙◌}
use lib.Dec.{ltb, leb}
use lib.IntN.{ℤ, pos, negsuc, neg_ℤ, nat_abs, sub_ℕ, ◌+ℤ◌, ◌-ℤ◌, ◌*ℤ◌}
use lib.Signed.{lt_z, le_z}
use borrow.Author.Tests.{lt-ltb, le-ltb, le-leb, lt-leb}
use Rattle.reading.proofs.Least.{lt_or_le}
use Rattle.floor_line.specs.Inner.LineHeight.{difference}

-- two tests that hold together are the same
pub same_ltb : (a b c d : ℕ) → (a < b → c < d) → (c < d → a < b) → ltb a b ≡ ltb c d
same_ltb a b c d f g =
    ⊎_elim (λ (h : a < b). rw (lt-ltb a b h, lt-ltb c d (f h)))
    (λ (h : b ≤ a). ⊎_elim (λ (k : c < d). absurd (omega (arith, g k))) (λ (k : d ≤ c). rw (le-ltb a b h, le-ltb c d k)) (lt_or_le c d))
    (lt_or_le a b)

pub same_leb : (a b c d : ℕ) → (a ≤ b → c ≤ d) → (c ≤ d → a ≤ b) → leb a b ≡ leb c d
same_leb a b c d f g =
    ⊎_elim (λ (h : b < a). ⊎_elim (λ (k : d < c). rw (lt-leb a b h, lt-leb c d k)) (λ (k : c ≤ d). absurd (omega (arith, g k))) (lt_or_le d c))
    (λ (h : a ≤ b). rw (le-leb a b h, le-leb c d (f h)))
    (lt_or_le b a)

pub below : (a b : ℕ) → a < b → difference a b ≡ negsuc (b - suc a)
unfolding difference
below a b h = rw (lt-ltb a b h)

pub above : (a b : ℕ) → b ≤ a → difference a b ≡ pos (a - b)
unfolding difference
above a b h = rw (le-ltb a b h)

pub same_difference : (a b c d : ℕ) → a + d ≡ c + b → difference a b ≡ difference c d
same_difference a b c d e =
    ⊎_elim (λ (h : a < b). below a b h ∙ ap negsuc (omega arith) ∙ sym (below c d (omega arith)))
    (λ (h : b ≤ a). above a b h ∙ ap pos (omega arith) ∙ sym (above c d (omega arith)))
    (lt_or_le a b)

pub pos-difference : (n : ℕ) → pos n ≡ difference n 0
pos-difference n = sym (above n 0 (omega arith) ∙ ap pos (sub-zero n))

plain : (a b : ℕ) → sub_ℕ a b ≡ difference a b
unfolding difference
plain a b = refl

pub neg_difference : (a b : ℕ) → neg_ℤ (difference a b) ≡ difference b a
neg_difference a b =
    ⊎_elim (λ (h : a < b). ap neg_ℤ (below a b h) ∙ ap pos (omega arith) ∙ sym (above b a (omega arith)))
    (λ (h : b ≤ a). ap neg_ℤ (above a b h) ∙ go h (a - b) refl)
    (lt_or_le a b)
  where
    go : b ≤ a → (n : ℕ) → a - b ≡ n → neg_ℤ (pos (a - b)) ≡ difference b a
    go h zero e = rw e (pos-difference 0 ∙ same_difference 0 0 b a (omega arith))
    go h (suc n) e = rw e (ap negsuc (omega arith) ∙ sym (below b a (omega arith)))

pub add_difference : (a b c d : ℕ) → difference a b +ℤ difference c d ≡ difference (a + c) (b + d)
add_difference a b c d =
    ⊎_elim (λ (h : a < b). ⊎_elim (λ (k : c < d). ll h k) (λ (k : d ≤ c). lh h k) (lt_or_le c d))
    (λ (h : b ≤ a). ⊎_elim (λ (k : c < d). hl h k) (λ (k : d ≤ c). hh h k) (lt_or_le c d))
    (lt_or_le a b)
  where
    ll : a < b → c < d → difference a b +ℤ difference c d ≡ difference (a + c) (b + d)
    ll h k = rw (below a b h, below c d k, below (a + c) (b + d) (omega arith)) (ap negsuc (omega arith))

    lh : a < b → d ≤ c → difference a b +ℤ difference c d ≡ difference (a + c) (b + d)
    lh h k = rw (below a b h, above c d k) (plain (c - d) (suc (b - suc a)) ∙ same_difference (c - d) (suc (b - suc a)) (a + c) (b + d) (omega arith))

    hl : b ≤ a → c < d → difference a b +ℤ difference c d ≡ difference (a + c) (b + d)
    hl h k = rw (above a b h, below c d k) (plain (a - b) (suc (d - suc c)) ∙ same_difference (a - b) (suc (d - suc c)) (a + c) (b + d) (omega arith))

    hh : b ≤ a → d ≤ c → difference a b +ℤ difference c d ≡ difference (a + c) (b + d)
    hh h k = rw (above a b h, above c d k, above (a + c) (b + d) (omega arith)) (ap pos (omega arith))

pub lt_z_difference : (a b c d : ℕ) → lt_z (difference a b) (difference c d) ≡ ltb (a + d) (c + b)
lt_z_difference a b c d =
    ⊎_elim
    (λ (h : a < b).
    ⊎_elim (λ (k : c < d). rw (below a b h, below c d k) (same_ltb (d - suc c) (b - suc a) (a + d) (c + b) (omega arith) (omega arith)))
    (λ (k : d ≤ c). rw (below a b h, above c d k) (sym (lt-ltb (a + d) (c + b) (omega arith)))) (lt_or_le c d))
    (λ (h : b ≤ a).
    ⊎_elim (λ (k : c < d). rw (above a b h, below c d k) (sym (le-ltb (a + d) (c + b) (omega arith))))
    (λ (k : d ≤ c). rw (above a b h, above c d k) (same_ltb (a - b) (c - d) (a + d) (c + b) (omega arith) (omega arith))) (lt_or_le c d))
    (lt_or_le a b)

pub le_z_difference : (a b c d : ℕ) → le_z (difference a b) (difference c d) ≡ leb (a + d) (c + b)
le_z_difference a b c d =
    ⊎_elim
    (λ (h : a < b).
    ⊎_elim (λ (k : c < d). rw (below a b h, below c d k) (same_leb (d - suc c) (b - suc a) (a + d) (c + b) (omega arith) (omega arith)))
    (λ (k : d ≤ c). rw (below a b h, above c d k) (sym (le-leb (a + d) (c + b) (omega arith)))) (lt_or_le c d))
    (λ (h : b ≤ a).
    ⊎_elim (λ (k : c < d). rw (above a b h, below c d k) (sym (lt-leb (a + d) (c + b) (omega arith))))
    (λ (k : d ≤ c). rw (above a b h, above c d k) (same_leb (a - b) (c - d) (a + d) (c + b) (omega arith) (omega arith))) (lt_or_le c d))
    (lt_or_le a b)

pub abs_difference : (a b : ℕ) → nat_abs (difference a b) ≡ (a - b) + (b - a)
abs_difference a b =
    ⊎_elim (λ (h : a < b). rw (below a b h) (omega arith)) (λ (h : b ≤ a). rw (above a b h) (omega arith)) (lt_or_le a b)

pub twice_difference : (a b : ℕ) → difference a b *ℤ pos 2 ≡ difference (2 * a) (2 * b)
twice_difference a b =
    ⊎_elim
    (λ (h : a < b). rw (below a b h) (ap neg_ℤ (pos-difference (suc (b - suc a) * 2)) ∙ neg_difference (suc (b - suc a) * 2) 0 ∙ same_difference 0 (suc (b - suc a) * 2) (2 * a) (2 * b) (omega arith)))
    (λ (h : b ≤ a). rw (above a b h) (pos-difference ((a - b) * 2) ∙ same_difference ((a - b) * 2) 0 (2 * a) (2 * b) (omega arith)))
    (lt_or_le a b)

-- ---- what is added to an integer, taken from it, or what it is taken from
pub plus : (a b k : ℕ) → difference a b +ℤ pos k ≡ difference (a + k) b
plus a b k = ap (λ (z : ℤ). difference a b +ℤ z) (pos-difference k) ∙ add_difference a b k 0 ∙ same_difference (a + k) (b + 0) (a + k) b (omega arith)

pub minus : (a b k : ℕ) → difference a b -ℤ pos k ≡ difference a (b + k)
minus a b k =
    ap (λ (z : ℤ). difference a b -ℤ z) (pos-difference k) ∙ ap (λ (z : ℤ). difference a b +ℤ z) (neg_difference k 0) ∙ add_difference a b 0 k
    ∙ same_difference (a + 0) (b + k) a (b + k) (omega arith)

pub from : (k a b : ℕ) → pos k -ℤ difference a b ≡ difference (k + b) a
from k a b =
    ap (λ (z : ℤ). z -ℤ difference a b) (pos-difference k) ∙ ap (λ (z : ℤ). difference k 0 +ℤ z) (neg_difference a b) ∙ add_difference k 0 b a
    ∙ same_difference (k + b) (0 + a) (k + b) a (omega arith)

pub minus_difference : (a b c d : ℕ) → difference a b -ℤ difference c d ≡ difference (a + d) (b + c)
minus_difference a b c d = ap (λ (z : ℤ). difference a b +ℤ z) (neg_difference c d) ∙ add_difference a b d c
