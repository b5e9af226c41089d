-- Laws of the line rule: how the program computes it, that it stays between its ends, and that heights stand for Y values on it, from
-- whatever number they are counted. Assumes nothing.
use Prim.Native.Nat.{ℕ, zero, suc, ◌+◌, ◌-◌, ◌*◌, ◌/◌, ◌≤◌, ◌<◌, min}
use native.Mathlib.Nat.{div-le_of_le-mul, div-zero, zero-div, mul-zero, mul_comm, mul-le-mul_left, mul-div_cancel}
use native.Mathlib.Omega.{arith}
use mathlib.Core.Logic.{⊎_elim}
use mathlib.Core.Path.{◌≡◌, sym, ap, ◌∙◌}
use lib.IntN.{pos, nat_abs, ◌-ℤ◌}
use borrow.Author.Tests.{lt-ltb, le-ltb}
use Rattle.reading.proofs.Least.{lt_or_le}
use Rattle.floor_line.specs.Line.{offset, line}
use Rattle.floor_line.specs.Inner.LineHeight.{difference, line_height}
use Rattle.floor_line.proofs.Integers.{same_difference, pos-difference, minus_difference, abs_difference, lt_z_difference, plus, minus}

-- ---- the offset, as the program computes it
module _ (x0 x1 ady x : ℕ) where
  pub offset_none : x1 ≤ x0 → 0 ≡ offset x0 x1 ady x
  unfolding offset
  offset_none h = let e : x1 - x0 ≡ 0 = omega arith in rw (e, div-zero)

  pub offset_left : x ≤ x0 → 0 ≡ offset x0 x1 ady x
  unfolding offset
  offset_left h = let e : min x x1 - x0 ≡ 0 = omega arith in rw (e, mul-zero, zero-div)

  pub offset_whole : x0 < x1 → x1 ≤ x → ady ≡ offset x0 x1 ady x
  unfolding offset
  offset_whole h k = let e : min x x1 ≡ x1 = omega arith in rw (e, mul-div_cancel ady {n = x1 - x0} (omega arith))

  pub offset_part : x < x1 → ady * (x - x0) / (x1 - x0) ≡ offset x0 x1 ady x
  unfolding offset
  offset_part h = let e : min x x1 ≡ x = omega arith in rw e

part_le : (a d w : ℕ) → d ≤ w → a * d / w ≤ a
part_le a d zero h = rw div-zero (omega arith)
part_le a d (suc w) h = div-le_of_le-mul (suc w) (rw (mul_comm (suc w) a) (mul-le-mul_left a h))

pub offset_le : (x0 x1 ady x : ℕ) → offset x0 x1 ady x ≤ ady
unfolding offset
offset_le x0 x1 ady x = part_le ady (min x x1 - x0) (x1 - x0) (omega arith)

-- a part of a number of 32 bits has 32 bits
pub small_part : (a d w : ℕ) → a < 4294967296 → d ≤ w → a * d / w < 4294967296
small_part a d w p q = omega (arith, part_le a d w q)

pub offset_most : (x0 x1 ady x r : ℕ) → r ≡ offset x0 x1 ady x → r ≤ ady
offset_most x0 x1 ady x r e = rw e (offset_le x0 x1 ady x)

-- ---- a height on a line
module _ (x0 h0 x1 h1 x : ℕ) where
  pub height_falls : h1 < h0 → line_height x0 h0 x1 h1 x ≡ h0 - offset x0 x1 (h0 - h1) x
  unfolding line_height
  height_falls h = rw (lt-ltb h1 h0 h)

  pub height_rises : h0 ≤ h1 → line_height x0 h0 x1 h1 x ≡ h0 + offset x0 x1 (h1 - h0) x
  unfolding line_height
  height_rises h = rw (le-ltb h1 h0 h)

  -- as the program asks it: r is the offset that was computed
  pub fallen : (r : ℕ) → h1 < h0 → r ≡ offset x0 x1 (h0 - h1) x → h0 - r ≡ line_height x0 h0 x1 h1 x
  fallen r h e = rw e (sym (height_falls h))

  pub risen : (r : ℕ) → h0 ≤ h1 → r ≡ offset x0 x1 (h1 - h0) x → h0 + r ≡ line_height x0 h0 x1 h1 x
  risen r h e = rw e (sym (height_rises h))

  pub height_le : (b : ℕ) → h0 ≤ b → h1 ≤ b → line_height x0 h0 x1 h1 x ≤ b
  height_le b p q =
      ⊎_elim (λ (h : h1 < h0). rw (height_falls h) (omega arith)) (λ (h : h0 ≤ h1). rw (height_rises h) (omega (arith, offset_le x0 x1 (h1 - h0) x))) (lt_or_le h1 h0)

  pub height_ge : (b : ℕ) → b ≤ h0 → b ≤ h1 → b ≤ line_height x0 h0 x1 h1 x
  height_ge b p q =
      ⊎_elim (λ (h : h1 < h0). rw (height_falls h) (omega (arith, offset_le x0 x1 (h0 - h1) x))) (λ (h : h0 ≤ h1). rw (height_rises h) (omega arith)) (lt_or_le h1 h0)

  rise_or_fall : (z : ℕ) → nat_abs (difference h1 z -ℤ difference h0 z) ≡ (h1 - h0) + (h0 - h1)
  rise_or_fall z = ap nat_abs (minus_difference h1 z h0 z) ∙ abs_difference (h1 + z) (z + h0) ∙ omega arith

  -- the Y value on a line, from the height on it
  pub line_height_lem : (z : ℕ) → line x0 (difference h0 z) x1 (difference h1 z) x ≡ difference (line_height x0 h0 x1 h1 x) z
  unfolding line
  line_height_lem z = ⊎_elim falls rises (lt_or_le h1 h0)
    where
      falls : h1 < h0 → line x0 (difference h0 z) x1 (difference h1 z) x ≡ difference (line_height x0 h0 x1 h1 x) z
      falls h =
          let e : (h1 - h0) + (h0 - h1) ≡ h0 - h1 = omega arith in
          rw (rise_or_fall z, e, lt_z_difference h1 z h0 z, lt-ltb (h1 + z) (h0 + z) (omega arith), height_falls h)
          (minus h0 z (offset x0 x1 (h0 - h1) x) ∙ same_difference h0 (z + offset x0 x1 (h0 - h1) x) (h0 - offset x0 x1 (h0 - h1) x) z (omega (arith, offset_le x0 x1 (h0 - h1) x)))

      rises : h0 ≤ h1 → line x0 (difference h0 z) x1 (difference h1 z) x ≡ difference (line_height x0 h0 x1 h1 x) z
      rises h =
          let e : (h1 - h0) + (h0 - h1) ≡ h1 - h0 = omega arith in
          rw (rise_or_fall z, e, lt_z_difference h1 z h0 z, le-ltb (h1 + z) (h0 + z) (omega arith), height_rises h) (plus h0 z (offset x0 x1 (h1 - h0) x))

  -- and from heights above 0
  pub line-pos : line x0 (pos h0) x1 (pos h1) x ≡ pos (line_height x0 h0 x1 h1 x)
  line-pos = rw (pos-difference h0, pos-difference h1) (line_height_lem 0 ∙ sym (pos-difference (line_height x0 h0 x1 h1 x)))
