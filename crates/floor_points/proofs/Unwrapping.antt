-- Laws of the step from a predicted Y value and a value read to the Y value (004, steps 10 to 28) and of clamping, for heights counted from
-- -65,536: one law for each way out of the definition. Assumes nothing.
use Prim.Native.Nat.{ℕ, ◌+◌, ◌-◌, ◌*◌, ◌/◌, ◌%◌, ◌≤◌, ◌<◌, min}
use native.Mathlib.Nat.{eq-or-lt_of_le}
use native.Mathlib.Omega.{arith}
use mathlib.Core.Bool.{false}
use mathlib.Core.List.{List}
use mathlib.Core.Logic.{⊎_elim}
use mathlib.Core.Path.{◌≡◌, sym, ap, ◌∙◌}
use lib.Dec.{ltb, leb}
use lib.ListN.{set}
use lib.IntN.{ℤ, pos, ◌+ℤ◌, ◌-ℤ◌, -ℤ-+ℤ_cancel}
use lib.Signed.{lt_z, le_z}
use borrow.Author.Tests.{lt-ltb, le-ltb, le-leb, lt-leb, eq-eqb, ne_eqb}
use Rattle.reading.proofs.Least.{lt_or_le}
use Rattle.floor_points.specs.FinalY.{room, unwrapped, clamped, flagged}
use Rattle.floor_line.specs.Inner.LineHeight.{difference}
use Rattle.floor_points.specs.Inner.Heights.{y_of, moved_height}
use Rattle.floor_line.proofs.Integers.{same_ltb, same_leb, below, above, same_difference, pos-difference, add_difference, twice_difference, lt_z_difference, le_z_difference, plus, minus, from}

-- a height moved by half a value
module _ (h val : ℕ) where
  pub moved_down : val % 2 ≡ 1 → h - (val + 1) / 2 ≡ moved_height h val
  unfolding moved_height
  moved_down o = rw (eq-eqb (val % 2) 1 o)

  pub moved_up : (val % 2 ≡ 1 → ⊥) → h + val / 2 ≡ moved_height h val
  unfolding moved_height
  moved_up o = rw (ne_eqb (val % 2) 1 o)

module _ (range p : ℕ) where
  -- the rooms compare as twice the height with the height at which they are equal
  less_high : lt_z (pos range -ℤ y_of p) (y_of p) ≡ ltb (range + 131072) (2 * p)
  less_high =
      ap (λ (z : ℤ). lt_z z (y_of p)) (from range p 65536) ∙ lt_z_difference (range + 65536) p p 65536
      ∙ same_ltb (range + 65536 + 65536) (p + p) (range + 131072) (2 * p) (omega arith) (omega arith)

  more_high : lt_z (y_of p) (pos range -ℤ y_of p) ≡ ltb (2 * p) (range + 131072)
  more_high =
      ap (λ (z : ℤ). lt_z (y_of p) z) (from range p 65536) ∙ lt_z_difference p 65536 (range + 65536) p
      ∙ same_ltb (p + p) (range + 65536 + 65536) (2 * p) (range + 131072) (omega arith) (omega arith)

  room_high : range + 131072 < 2 * p → room range (y_of p) ≡ difference (2 * (range + 65536)) (2 * p)
  unfolding room
  room_high h = rw (less_high, lt-ltb (range + 131072) (2 * p) h, from range p 65536) (twice_difference (range + 65536) p)

  room_low : 2 * p ≤ range + 131072 → room range (y_of p) ≡ difference (2 * p) (2 * 65536)
  unfolding room
  room_low h = rw (less_high, le-ltb (range + 131072) (2 * p) h) (twice_difference p 65536)

  module _ (val : ℕ) where
    -- the value fills the room: the low one, or the high one
    fills_low : 2 * p ≤ range + 131072 → le_z (room range (y_of p)) (pos val) ≡ leb (2 * p) (val + 131072)
    fills_low h =
        rw (room_low h, pos-difference val)
        (le_z_difference (2 * p) (2 * 65536) val 0 ∙ same_leb (2 * p + 0) (val + 2 * 65536) (2 * p) (val + 131072) (omega arith) (omega arith))

    fills_high : range + 131072 ≤ 2 * p → le_z (room range (y_of p)) (pos val) ≡ leb (2 * range + 131072) (val + 2 * p)
    fills_high h =
        ⊎_elim
        (λ (e : range + 131072 ≡ 2 * p). fills_low (omega arith) ∙ same_leb (2 * p) (val + 131072) (2 * range + 131072) (val + 2 * p) (omega arith) (omega arith))
        (λ (l : range + 131072 < 2 * p).
        rw (room_high l, pos-difference val)
        (le_z_difference (2 * (range + 65536)) (2 * p) val 0
        ∙ same_leb (2 * (range + 65536) + 0) (val + 2 * p) (2 * range + 131072) (val + 2 * p) (omega arith) (omega arith)))
        (eq-or-lt_of_le h)

    -- 28
    pub unwrap_zero : val ≡ 0 → y_of p ≡ unwrapped range (y_of p) val
    unfolding unwrapped
    unwrap_zero e = rw (eq-eqb val 0 e)

    -- 22: the value itself
    pub unwrap_low : (val ≡ 0 → ⊥) → 2 * p < range + 131072 → 2 * p ≤ val + 131072 → y_of (65536 + val) ≡ unwrapped range (y_of p) val
    unfolding unwrapped
    unwrap_low n h f =
        rw (ne_eqb val 0 n, fills_low (omega arith), le-leb (2 * p) (val + 131072) f, more_high, lt-ltb (2 * p) (range + 131072) h)
        (same_difference (65536 + val) 65536 val 0 (omega arith) ∙ sym (pos-difference val) ∙ sym (-ℤ-+ℤ_cancel (pos val) (y_of p)))

    -- 23: range - 1 less the value
    pub unwrap_high : (val ≡ 0 → ⊥) → 0 < range → val < 65536 → range + 131072 ≤ 2 * p → 2 * range + 131072 ≤ val + 2 * p → y_of (65535 + range - val) ≡ unwrapped range (y_of p) val
    unfolding unwrapped
    unwrap_high n r v h f =
        rw (ne_eqb val 0 n, fills_high h, le-leb (2 * range + 131072) (val + 2 * p) f, more_high, le-ltb (2 * p) (range + 131072) h)
        (same_difference (65535 + range - val) 65536 (p + (range + 65536)) (65536 + val + p + 1) (omega arith)
        ∙ sym (minus (p + (range + 65536)) (65536 + val + p) 1)
        ∙ ap (λ (z : ℤ). z -ℤ pos 1)
        (sym (add_difference p (65536 + val) (range + 65536) p) ∙ ap (λ (z : ℤ). z +ℤ difference (range + 65536) p) (sym (minus p 65536 val)) ∙ ap (λ (z : ℤ). y_of p -ℤ pos val +ℤ z) (sym (from range p 65536))))

    -- 24 to 26: the value is less than the room
    near_odd : (val ≡ 0 → ⊥) → le_z (room range (y_of p)) (pos val) ≡ false → val % 2 ≡ 1 → (val + 1) / 2 ≤ p → y_of (p - (val + 1) / 2) ≡ unwrapped range (y_of p) val
    unfolding unwrapped
    near_odd n f o l =
        rw (ne_eqb val 0 n, f, eq-eqb (val % 2) 1 o) (same_difference (p - (val + 1) / 2) 65536 p (65536 + (val + 1) / 2) (omega arith) ∙ sym (minus p 65536 ((val + 1) / 2)))

    near_even : (val ≡ 0 → ⊥) → le_z (room range (y_of p)) (pos val) ≡ false → (val % 2 ≡ 1 → ⊥) → y_of (p + val / 2) ≡ unwrapped range (y_of p) val
    unfolding unwrapped
    near_even n f o = rw (ne_eqb val 0 n, f, ne_eqb (val % 2) 1 o) (sym (plus p 65536 (val / 2)))

    near : (val ≡ 0 → ⊥) → le_z (room range (y_of p)) (pos val) ≡ false → (val + 1) / 2 ≤ p → y_of (moved_height p val) ≡ unwrapped range (y_of p) val
    near n f l =
        ⊎_elim (λ (h : val % 2 < 1). let o : val % 2 ≡ 1 → ⊥ = omega arith in rw (← moved_up p val o) (near_even n f o))
        (λ (h : 1 ≤ val % 2). let o : val % 2 ≡ 1 = omega arith in rw (← moved_down p val o) (near_odd n f o l))
        (lt_or_le (val % 2) 1)

    pub unwrap_near_low : (r : ℕ) → (val ≡ 0 → ⊥) → 2 * p < range + 131072 → val + 131072 < 2 * p → r ≡ moved_height p val → y_of r ≡ unwrapped range (y_of p) val
    unwrap_near_low r n h f e = rw e (near n (fills_low (omega arith) ∙ lt-leb (2 * p) (val + 131072) f) (omega arith))

    pub unwrap_near_high : (r : ℕ) → (val ≡ 0 → ⊥) → range + 131072 ≤ 2 * p → val + 2 * p < 2 * range + 131072 → (val + 1) / 2 ≤ p → r ≡ moved_height p val → y_of r ≡ unwrapped range (y_of p) val
    unwrap_near_high r n h f l e = rw e (near n (fills_high h ∙ lt-leb (2 * range + 131072) (val + 2 * p) f) l)

-- ---- clamping
-- m is the height less 65,536, not below 0, and r the lesser of that and the last value of the range
pub clamp_made : (range h m r : ℕ) → m ≡ h - 65536 → r ≡ min m (range - 1) → r ≡ clamped range (y_of h)
unfolding clamped
clamp_made range h m r e q =
    ⊎_elim (λ (l : h < 65536). rw (below h 65536 l) (omega arith)) (λ (l : 65536 ≤ h). rw (above h 65536 l) (omega arith)) (lt_or_le h 65536)

-- ---- the flags
module _ (val low high i : ℕ) (flags : List ℕ) where
  pub flag_unset : val ≡ 0 → set flags i 0 ≡ flagged val low high i flags
  unfolding flagged
  flag_unset e = rw (eq-eqb val 0 e)

  pub flag_set : (val ≡ 0 → ⊥) → set (set (set flags low 1) high 1) i 1 ≡ flagged val low high i flags
  unfolding flagged
  flag_set n = rw (ne_eqb val 0 n)
