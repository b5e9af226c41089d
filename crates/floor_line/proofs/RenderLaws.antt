-- The line rule gives at every place what the running error of 000 section 9.2.7 gives. Assumes nothing.
use Prim.Native.Nat.{ℕ, zero, suc, ◌+◌, ◌-◌, ◌*◌, ◌/◌, ◌%◌, ◌≤◌, ◌<◌}
use native.Mathlib.Nat.{mul-suc, mul-zero, zero-div, zero-mod, div-add-mod', mod-lt, add-mul}
use native.Mathlib.Omega.{arith}
use mathlib.Core.Logic.{⊎_elim}
use mathlib.Core.Path.{◌≡◌, refl, sym, ap, ◌∙◌}
use lib.Arith.{digits_div, digits_mod}
use lib.IntN.{ℤ, pos, negsuc, neg_ℤ, nat_abs, ◌+ℤ◌, ◌-ℤ◌, +ℤ_assoc, +ℤ_idr, neg_ℤ-+ℤ}
use lib.Signed.{lt_z}
use borrow.Author.Tests.{le-ltb, le-leb, lt-leb}
use Rattle.reading.proofs.Least.{lt_or_le}
use Rattle.floor_line.specs.Line.{offset, line}
use Rattle.floor_line.specs.Inner.LineHeight.{difference}
use Rattle.floor_line.specs.Inner.RenderLine.{State, next_state, state_after, base_of, sy_of, ady_of, render_line}
use Rattle.floor_line.proofs.Integers.{same_ltb, pos-difference, neg_difference, minus_difference, lt_z_difference}
use Rattle.floor_line.proofs.LineLaws.{offset_part}

-- ---- quotient and remainder of a * n, from one n to the next
module _ (a w : ℕ) (pw : 0 < w) where
  rest : ℕ
  rest = a - a / w * w

  whole : a / w * w + rest ≡ a
  unfolding rest
  whole = omega (arith, div-add-mod' a w)

  under : (n : ℕ) → a * n % w + rest < w → (a * suc n / w ≡ a * n / w + a / w) × (a * suc n % w ≡ a * n % w + rest)
  under n h =
      let e : a * suc n ≡ (a * n / w + a / w) * w + (a * n % w + rest) = omega (arith, mul-suc a n, div-add-mod' (a * n) w, whole, add-mul (a * n / w) (a / w) w) in
      (rw e (digits_div (a * n / w + a / w) h), rw e (digits_mod (a * n / w + a / w) h))

  over : (n : ℕ) → w ≤ a * n % w + rest → (a * suc n / w ≡ a * n / w + (a / w + 1)) × (a * suc n % w ≡ a * n % w + rest - w)
  over n h =
      let s : rest < w = rest_lt in
      let m : a * n % w < w = mod-lt (a * n) pw in
      let l : a * n % w + rest - w < w = omega arith in
      let e : a * suc n ≡ (a * n / w + (a / w + 1)) * w + (a * n % w + rest - w) =
      omega (arith, mul-suc a n, div-add-mod' (a * n) w, whole, add-mul (a * n / w) (a / w + 1) w, add-mul (a / w) 1 w) in
      (rw e (digits_div (a * n / w + (a / w + 1)) l), rw e (digits_mod (a * n / w + (a / w + 1)) l))
    where
      rest_lt : rest < w
      rest_lt = omega (arith, whole, div-add-mod' a w, mod-lt a pw)

-- ---- the state after n places
module _ (y0 : ℤ) (a w : ℕ) (pw : 0 < w) where
  add_twice : (k q : ℕ) → y0 +ℤ pos k +ℤ pos q ≡ y0 +ℤ pos (k + q)
  add_twice k q = +ℤ_assoc y0 (pos k) (pos q)

  take_twice : (k q : ℕ) → y0 -ℤ pos k +ℤ neg_ℤ (pos q) ≡ y0 -ℤ pos (k + q)
  take_twice k q = +ℤ_assoc y0 (neg_ℤ (pos k)) (neg_ℤ (pos q)) ∙ ap (λ (z : ℤ). y0 +ℤ z) (sym (neg_ℤ-+ℤ (pos k) (pos q)))

  at : ℤ → ℕ → State
  at y e = record { y = y; err = e }

  rises : (n : ℕ) → state_after y0 (pos (a / w)) (pos (a / w) +ℤ pos 1) (rest a w pw) w n ≡ at (y0 +ℤ pos (a * n / w)) (a * n % w)
  unfolding state_after next_state at
  rises zero = rw (mul-zero a, zero-div w, zero-mod w) (ap (λ (z : ℤ). at z 0) (sym (+ℤ_idr y0)))
  rises (suc n) =
      rw (rises n)
      (⊎_elim
      (λ (h : a * n % w + rest a w pw < w).
      let u = under a w pw n h in
      rw (lt-leb w (a * n % w + rest a w pw) h, u.0, u.1) (ap (λ (z : ℤ). at z (a * n % w + rest a w pw)) (add_twice (a * n / w) (a / w))))
      (λ (h : w ≤ a * n % w + rest a w pw).
      let o = over a w pw n h in
      rw (le-leb w (a * n % w + rest a w pw) h, o.0, o.1) (ap (λ (z : ℤ). at z (a * n % w + rest a w pw - w)) (add_twice (a * n / w) (a / w + 1))))
      (lt_or_le (a * n % w + rest a w pw) w))

  falls : (n : ℕ) → state_after y0 (neg_ℤ (pos (a / w))) (neg_ℤ (pos (a / w)) -ℤ pos 1) (rest a w pw) w n ≡ at (y0 -ℤ pos (a * n / w)) (a * n % w)
  unfolding state_after next_state at
  falls zero = rw (mul-zero a, zero-div w, zero-mod w) (ap (λ (z : ℤ). at z 0) (sym (+ℤ_idr y0)))
  falls (suc n) =
      rw (falls n)
      (⊎_elim
      (λ (h : a * n % w + rest a w pw < w).
      let u = under a w pw n h in
      rw (lt-leb w (a * n % w + rest a w pw) h, u.0, u.1) (ap (λ (z : ℤ). at z (a * n % w + rest a w pw)) (take_twice (a * n / w) (a / w))))
      (λ (h : w ≤ a * n % w + rest a w pw).
      let o = over a w pw n h in
      rw (le-leb w (a * n % w + rest a w pw) h, o.0, o.1)
      (ap (λ (z : ℤ). at (y0 -ℤ pos (a * n / w) +ℤ z) (a * n % w + rest a w pw - w)) (sym (neg_ℤ-+ℤ (pos (a / w)) (pos 1)))
      ∙ ap (λ (z : ℤ). at z (a * n % w + rest a w pw - w)) (take_twice (a * n / w) (a / w + 1))))
      (lt_or_le (a * n % w + rest a w pw) w))

-- ---- the sign of dy
up : ℤ → ℕ
up (pos n) = n
up (negsuc n) = 0

down : ℤ → ℕ
down (pos n) = 0
down (negsuc n) = suc n

as_difference : (y : ℤ) → y ≡ difference (up y) (down y)
unfolding up down difference
as_difference (pos n) = pos-difference n
as_difference (negsuc n) = ap neg_ℤ (pos-difference (suc n)) ∙ neg_difference (suc n) 0

sign : (y0 y1 : ℤ) → lt_z y1 y0 ≡ lt_z (y1 -ℤ y0) (pos 0)
sign y0 y1 =
    rw (as_difference y0, as_difference y1)
    (lt_z_difference (up y1) (down y1) (up y0) (down y0) ∙ same_ltb (up y1 + down y0) (up y0 + down y1) (up y1 + down y0 + 0) (0 + (down y1 + up y0)) (omega arith) (omega arith)
    ∙ sym (ap (λ (z : ℤ). lt_z z (pos 0)) (minus_difference (up y1) (down y1) (up y0) (down y0)) ∙ ap (λ (z : ℤ). lt_z (difference (up y1 + down y0) (down y1 + up y0)) z) (pos-difference 0)
    ∙ lt_z_difference (up y1 + down y0) (down y1 + up y0) 0 0))

abs_neg : (k : ℕ) → nat_abs (neg_ℤ (pos k)) ≡ k
abs_neg zero = refl
abs_neg (suc k) = refl

-- ---- the whole claim
module _ (x0 x1 x : ℕ) (y0 y1 : ℤ) (h : x0 ≤ x) (l : x < x1) (a : ℕ) where
  -- for any dy
  plotted : ℤ → ℤ
  plotted d = (state_after y0 (base_of d (x1 - x0)) (sy_of d (x1 - x0)) (ady_of d (x1 - x0)) (x1 - x0) (x - x0)).y

  sy_rises : sy_of (pos a) (x1 - x0) ≡ pos (a / (x1 - x0)) +ℤ pos 1
  unfolding sy_of base_of
  sy_rises = rw (le-ltb a 0 (omega arith))

  plotted_rises : plotted (pos a) ≡ y0 +ℤ pos (a * (x - x0) / (x1 - x0))
  unfolding plotted base_of ady_of rest at
  plotted_rises =
      ap (λ (z : ℤ). (state_after y0 (pos (a / (x1 - x0))) z (a - a / (x1 - x0) * (x1 - x0)) (x1 - x0) (x - x0)).y) sy_rises
      ∙ ap (λ (p : State). p.y) (rises y0 a (x1 - x0) (omega arith) (x - x0))

  ady_falls : ady_of (negsuc a) (x1 - x0) ≡ suc a - suc a / (x1 - x0) * (x1 - x0)
  unfolding ady_of base_of
  ady_falls = ap (λ (k : ℕ). suc a - k * (x1 - x0)) (abs_neg (suc a / (x1 - x0)))

  plotted_falls : plotted (negsuc a) ≡ y0 -ℤ pos (suc a * (x - x0) / (x1 - x0))
  unfolding plotted base_of sy_of rest at
  plotted_falls =
      ap (λ (k : ℕ). (state_after y0 (neg_ℤ (pos (suc a / (x1 - x0)))) (neg_ℤ (pos (suc a / (x1 - x0))) -ℤ pos 1) k (x1 - x0) (x - x0)).y) ady_falls
      ∙ ap (λ (p : State). p.y) (falls y0 (suc a) (x1 - x0) (omega arith) (x - x0))

  render_rises : y1 -ℤ y0 ≡ pos a → render_line x0 y0 x1 y1 x ≡ y0 +ℤ pos (offset x0 x1 a x)
  unfolding render_line plotted
  render_rises e = ap plotted e ∙ plotted_rises ∙ ap (λ (k : ℕ). y0 +ℤ pos k) (offset_part x0 x1 a x l)

  line_rises : y1 -ℤ y0 ≡ pos a → line x0 y0 x1 y1 x ≡ y0 +ℤ pos (offset x0 x1 a x)
  unfolding line
  line_rises e = rw (sign y0 y1, e, le-ltb a 0 (omega arith))

  render_falls : y1 -ℤ y0 ≡ negsuc a → render_line x0 y0 x1 y1 x ≡ y0 -ℤ pos (offset x0 x1 (suc a) x)
  unfolding render_line plotted
  render_falls e = ap plotted e ∙ plotted_falls ∙ ap (λ (k : ℕ). y0 -ℤ pos k) (offset_part x0 x1 (suc a) x l)

  line_falls : y1 -ℤ y0 ≡ negsuc a → line x0 y0 x1 y1 x ≡ y0 -ℤ pos (offset x0 x1 (suc a) x)
  unfolding line
  line_falls e = rw (sign y0 y1, e)

pub render_is_line : (x0 x1 x : ℕ) (y0 y1 : ℤ) → x0 ≤ x → x < x1 → render_line x0 y0 x1 y1 x ≡ line x0 y0 x1 y1 x
render_is_line x0 x1 x y0 y1 h l = go (y1 -ℤ y0) refl
  where
    go : (d : ℤ) → y1 -ℤ y0 ≡ d → render_line x0 y0 x1 y1 x ≡ line x0 y0 x1 y1 x
    go (pos a) e = render_rises x0 x1 x y0 y1 h l a e ∙ sym (line_rises x0 x1 x y0 y1 h l a e)
    go (negsuc a) e = render_falls x0 x1 x y0 y1 h l a e ∙ sym (line_falls x0 x1 x y0 y1 h l a e)
