-- Final Y and the step 2 flags (004, "curve computation", step 1; 01, "Audio order" 3). The numbers in comments are 004's steps.
-- Assumes nothing: these are definitions.
use Rattle.std.specs.Prelude.{ℕ, zero, suc, ◌+◌, ◌-◌, ◌*◌, ◌/◌, ◌%◌, ◌≤◌, min, Bool, true, false, ◌&&◌, cond, List, map, length, get_or, set, replicate, eqb, ltb, ℤ, pos, negsuc, ◌+ℤ◌, ◌-ℤ◌, ◌*ℤ◌}
use Rattle.std.specs.Int.Signed.{lt_z, le_z}
use Rattle.floor_line.specs.Line.{line}
use Rattle.floor_line.specs.Neighbours.{x_at, low_neighbour, high_neighbour}

-- 1: the range that goes with a multiplier; 0 where there is no such multiplier
unfoldable pub range_of : ℕ → ℕ
range_of m = cond (eqb m 1) 256 (cond (eqb m 2) 128 (cond (eqb m 3) 86 (cond (eqb m 4) 64 0)))

-- the points so far: a Y value for each place, and a flag, 1 where it is set
pub record Points : Type 0 where
  pub ys : List ℤ
  pub flags : List ℕ

-- the Y value at a place
abbrev pub y_at : List ℤ → ℕ → ℤ
y_at ys j = get_or ys j (pos 0)

-- 9: the predicted Y value of place i
unfoldable pub predicted : List ℕ → ℕ → List ℤ → ℤ
predicted xs i ys =
    line (x_at xs (low_neighbour xs i)) (y_at ys (low_neighbour xs i)) (x_at xs (high_neighbour xs i)) (y_at ys (high_neighbour xs i)) (x_at xs i)

-- 11, 12, 14 and 15
abbrev pub highroom : ℕ → ℤ → ℤ
highroom range p = pos range -ℤ p

abbrev pub lowroom : ℤ → ℤ
lowroom p = p

unfoldable pub room : ℕ → ℤ → ℤ
room range p = cond (lt_z (highroom range p) (lowroom p)) (highroom range p *ℤ pos 2) (lowroom p *ℤ pos 2)

-- 16 and 20 to 28: the Y value that a predicted one and the value read give
unfoldable pub unwrapped : ℕ → ℤ → ℕ → ℤ
unwrapped range p val =
    cond (eqb val 0) p
    (cond (le_z (room range p) (pos val))
    (cond (lt_z (lowroom p) (highroom range p)) (pos val -ℤ lowroom p +ℤ p) (p -ℤ pos val +ℤ highroom range p -ℤ pos 1))
    (cond (eqb (val % 2) 1) (p -ℤ pos ((val + 1) / 2)) (p +ℤ pos (val / 2))))

-- clamped to 0..range-1
unfoldable pub clamped : ℕ → ℤ → ℕ
clamped range (pos n) = min n (range - 1)
clamped range (negsuc n) = 0

-- 17 to 19 and 27: a value that is not zero flags its point and both neighbours
unfoldable pub flagged : ℕ → ℕ → ℕ → ℕ → List ℕ → List ℕ
flagged val low high i flags = cond (eqb val 0) (set flags i 0) (set (set (set flags low 1) high 1) i 1)

-- 7 to 28, for place i
unfoldable pub step : ℕ → List ℕ → List ℕ → ℕ → Points → Points
step range xs vals i s =
    record {
      ys = set s.ys i (unwrapped range (predicted xs i s.ys) (get_or vals i 0));
      flags = flagged (get_or vals i 0) (low_neighbour xs i) (high_neighbour xs i) i s.flags;
    }

-- 6: the n places from i on
unfoldable pub steps : ℕ → List ℕ → List ℕ → ℕ → ℕ → Points → Points
steps range xs vals i zero s = s
steps range xs vals i (suc n) s = steps range xs vals (suc i) n (step range xs vals i s)

-- 2 to 5: each value as it was read, of which the first two are final; only these two flags are set
unfoldable pub begun : List ℕ → Points
begun vals = record { ys = map pos vals; flags = set (set (replicate (length vals) 0) 0 1) 1 1 }

-- 1 to 29: every point, not yet clamped
unfoldable pub points : ℕ → List ℕ → List ℕ → Points
points range xs vals = steps range xs vals 2 (length xs - 2) (begun vals)

-- lists of so many places fit each other: 2 to 65 X, one value for each, as many places for what comes out, and a multiplier of 1 to 4
unfoldable pub fitting : ℕ → ℕ → ℕ → ℕ → ℕ → Bool
fitting places_x m places_values places_y places_flags =
    ltb 1 places_x && (ltb places_x 66 && (ltb 0 (range_of m) && (eqb places_values places_x && (eqb places_y places_x && eqb places_flags places_x))))

-- what final Y leaves: whether the lists fit each other, the final Y values and the flags
pub record Left : Type 0 where
  pub fit : Bool
  pub final_y : List ℕ
  pub flags : List ℕ

abbrev pub left : Bool → List ℕ → List ℕ → Left
left fit final_y flags = record { fit = fit; final_y = final_y; flags = flags }

-- final Y of lists that fit each other: every Y value, clamped after the last one, and the flags. Of others: zeros
unfoldable pub final_ys : List ℕ → List ℕ → ℕ → ℕ → ℕ → Left
final_ys xs vals m places_y places_flags =
    cond (fitting (length xs) m (length vals) places_y places_flags)
    (left true (map (clamped (range_of m)) (points (range_of m) xs vals).ys) (points (range_of m) xs vals).flags)
    (left false (replicate places_y 0) (replicate places_flags 0))

-- each Y value times the multiplier is a byte, as 01 says of the curve
pub record Multiplies (m : ℕ) (final_y : List ℕ) : Type 0 where
  pub byte : (k : ℕ) → get_or final_y k 0 * m ≤ 255
