-- Laws of the curve as it is drawn, from one flagged point to the next. Assumes nothing.
use Prim.Native.Nat.{ℕ, ◌≤◌, ◌<◌}
use native.Mathlib.Omega.{arith}
use mathlib.Core.Bool.{Bool, true, false, cond}
use mathlib.Core.List.{List}
use mathlib.Core.Logic.{◌⊎◌, ⊎_elim}
use mathlib.Core.Path.{◌≡◌, refl, sym, ◌∙◌}
use lib.Dec.{ltb, eqb}
use lib.ListN.{length, get_or, replicate, length-replicate, get_or-replicate}
use lib.Seq.{ext_get_or}
use borrow.Author.Tests.{lt-ltb, le-ltb, ltb-true, eqb-true}
use Rattle.reading.proofs.Least.{lt_or_le, and_split}
use Rattle.floor_line.proofs.LineLaws.{height_le}
use Rattle.floor_curve.specs.Curve.{x_or, last_at, next_after, height_at, line_at, between, curve_at, places, fitting, left, curve, Bytes}
use Rattle.floor_curve.specs.Inner.Drawing.{Drawn, Flat, Points}
use Rattle.floor_curve.proofs.PointLaws.{within, last_le, last_ge, next_is, Clear, last_same, next_same, clear_next, clear_past}
use Rattle.floor_curve.proofs.DrawLaws.{are_places, line_height_at}

module _ (xs ys fs : List ℕ) (m a x : ℕ) where
  -- the curve between two points, and past the last
  pub curve_line : Clear xs fs a x → next_after xs fs a < length xs
      → line_at (get_or xs (last_at xs fs a) 0) (height_at ys m (last_at xs fs a)) (get_or xs (next_after xs fs a) 0) (height_at ys m (next_after xs fs a)) x ≡ curve_at xs ys fs m x
  unfolding curve_at between
  curve_line w h = rw (last_same xs fs a x w, next_same xs fs a x w, lt-ltb (next_after xs fs a) (length xs) h)

  pub curve_flat : Clear xs fs a x → next_after xs fs a ≡ length xs → height_at ys m (last_at xs fs a) ≡ curve_at xs ys fs m x
  unfolding curve_at between
  curve_flat w e = rw (last_same xs fs a x w, next_same xs fs a x w, le-ltb (next_after xs fs a) (length xs) (omega arith))

-- the curve is drawn up to a place, at which a point lies
pub record DrawnUpTo (xs ys fs : List ℕ) (m : ℕ) (before now : List ℕ) (at : ℕ) : Type 0 where
  pub long : length now ≡ length before
  pub here : get_or xs (last_at xs fs at) 0 ≡ at
  pub on : (k : ℕ) → k < at → k < length before → get_or now k 0 ≡ curve_at xs ys fs m k

pub up_to_begin : (xs ys fs : List ℕ) (m : ℕ) (before : List ℕ) → Points xs ys fs → DrawnUpTo xs ys fs m before before 0
up_to_begin xs ys fs m before p =
    record { long = refl; here = omega (arith, last_le xs fs 0 (omega (arith, p.begins))); on = λ k h. absurd (omega arith) }

module _ (xs ys fs : List ℕ) (m : ℕ) (before now after : List ℕ) (at l r : ℕ) where
  -- a line was drawn from the point at which the drawing stood to the next
  pub up_to_line : (x0 y0 x1 y1 w : ℕ) → Points xs ys fs → DrawnUpTo xs ys fs m before now at → l ≡ last_at xs fs at → r ≡ next_after xs fs at → r < length xs
      → x0 ≡ get_or xs l 0 → y0 ≡ height_at ys m l → x1 ≡ get_or xs r 0 → y1 ≡ height_at ys m r → Drawn x0 y0 x1 y1 now after → w ≡ x1 → DrawnUpTo xs ys fs m before after w
  up_to_line x0 y0 x1 y1 w p s el er h e0 f0 e1 f1 d ew =
      record { long = d.long ∙ s.long; here = rw ew (arrives (next_is xs fs at nh)); on = λ k i j. on k (omega arith) j (lt_or_le k at) }
    where
      nh : next_after xs fs at < length xs
      nh = rw er at h

      x1_is : x1 ≡ get_or xs (next_after xs fs at) 0
      x1_is = rw er at e1

      x1_or : x1 ≡ x_or xs (next_after xs fs at)
      x1_or = x1_is ∙ within xs (next_after xs fs at) 0 65536 nh

      arrives : (get_or fs (next_after xs fs at) 0 ≡ 0 → ⊥) × (at < x_or xs (next_after xs fs at)) → get_or xs (last_at xs fs x1) 0 ≡ x1
      arrives q =
          let lo = last_le xs fs x1 (omega (arith, p.begins)) in
          let hi = last_ge xs fs x1 (next_after xs fs at) nh q.0 (omega (arith, x1_is)) in
          omega (arith, x1_is)

      x0-at : x0 ≡ at
      x0-at = rw el at e0 ∙ s.here

      on : (k : ℕ) → k < x1 → k < length before → (k < at) ⊎ (at ≤ k) → get_or after k 0 ≡ curve_at xs ys fs m k
      on k i j q =
          ⊎_elim (λ (b : k < at). d.left k (omega (arith, x0-at)) ∙ s.on k b j)
          (λ (b : at ≤ k).
          d.on k (omega (arith, x0-at)) i (omega (arith, s.long)) ∙ rw (e0, f0, e1, f1, el, er) (curve_line xs ys fs m at k (clear_next xs fs at k b (omega (arith, x1_or))) nh))
          q

  -- the flat part was drawn, past the last point
  pub up_to_flat : (y : ℕ) → ((k : ℕ) → get_or xs k 0 < 65536) → DrawnUpTo xs ys fs m before now at → l ≡ last_at xs fs at → r ≡ next_after xs fs at → r ≡ length xs
      → y ≡ height_at ys m l → Flat at y now after → after ≡ places (curve_at xs ys fs m) 0 (length before)
  up_to_flat y small s el er h f d =
      are_places (curve_at xs ys fs m) (length before) after (d.long ∙ s.long) (λ k j. on k j (lt_or_le k at))
    where
      on : (k : ℕ) → k < length before → (k < at) ⊎ (at ≤ k) → get_or after k 0 ≡ curve_at xs ys fs m k
      on k j q =
          ⊎_elim (λ (b : k < at). d.left k b ∙ s.on k b j)
          (λ (b : at ≤ k).
          d.on k b (omega (arith, s.long)) ∙ rw (f, el) (curve_flat xs ys fs m at k (clear_past xs fs at k small b (sym er ∙ h)) (sym er ∙ h)))
          q

pub up_to_end : (xs ys fs : List ℕ) (m : ℕ) (before now : List ℕ) (at : ℕ) → DrawnUpTo xs ys fs m before now at → length before ≤ at
    → now ≡ places (curve_at xs ys fs m) 0 (length before)
up_to_end xs ys fs m before now at s h = are_places (curve_at xs ys fs m) (length before) now s.long (λ k j. s.on k (omega arith) j)

-- ---- lists that fit each other
pub fit_points : (xs ys fs : List ℕ) (t : Bool) → t ≡ fitting xs (length ys) (length fs) → t ≡ true → Points xs ys fs
unfolding fitting
fit_points xs ys fs t e h =
    let p1 = and_split (ltb 0 (length xs)) _ (sym e ∙ h) in
    let p2 = and_split (eqb (get_or xs 0 0) 0) _ p1.1 in
    let p3 = and_split (eqb (length ys) (length xs)) _ p2.1 in
    record { some = ltb-true 0 (length xs) p1.0; begins = eqb-true (get_or xs 0 0) 0 p2.0; heights = eqb-true (length ys) (length xs) p3.0; flagged = eqb-true (length fs) (length xs) p3.1 }

module _ (xs ys fs : List ℕ) (m n : ℕ) (t : Bool) (out : List ℕ) where
  pub all_left : t ≡ fitting xs (length ys) (length fs) → t ≡ true → out ≡ places (curve_at xs ys fs m) 0 n → left true out ≡ curve xs ys fs m n
  unfolding curve
  all_left e h q = rw (q, ← e, h)

  pub none_left : t ≡ fitting xs (length ys) (length fs) → t ≡ false → out ≡ replicate n 0 → left false out ≡ curve xs ys fs m n
  unfolding curve
  none_left e h q = rw (q, ← e, h)

-- the next point lies right of the one at which the drawing stands
pub next_right : (xs fs : List ℕ) (at r w : ℕ) → r ≡ next_after xs fs at → r < length xs → w ≡ get_or xs r 0 → at < w
next_right xs fs at r w e h q =
    let n : next_after xs fs at < length xs = rw e at h in
    let q' : w ≡ get_or xs (next_after xs fs at) 0 = rw e at q in
    omega (arith, (next_is xs fs at n).1, within xs (next_after xs fs at) 0 65536 n)

pub flat_zeros : (before after : List ℕ) → Flat 0 0 before after → after ≡ replicate (length before) 0
flat_zeros before after d =
    ext_get_or 0 after (replicate (length before) 0) (d.long ∙ sym (length-replicate (length before) 0))
    (λ k h. d.on k (omega arith) (omega (arith, d.long)) ∙ sym (get_or-replicate (length before) k 0 0 (omega (arith, d.long))))

-- ---- every value is a byte
pub curve_bytes : (xs ys fs : List ℕ) (m : ℕ) → Bytes (curve_at xs ys fs m)
unfolding curve_at between height_at
curve_bytes xs ys fs m = record { byte = λ x. either x (ltb (next_after xs fs x) (length xs)) }
  where
    either : (x : ℕ) (t : Bool)
        → cond t (line_at (get_or xs (last_at xs fs x) 0) (height_at ys m (last_at xs fs x)) (get_or xs (next_after xs fs x) 0) (height_at ys m (next_after xs fs x)) x) (height_at ys m (last_at xs fs x)) ≤ 255
    either x true =
        rw (line_height_at (get_or xs (last_at xs fs x) 0) (height_at ys m (last_at xs fs x)) (get_or xs (next_after xs fs x) 0) (height_at ys m (next_after xs fs x)) x)
        (height_le (get_or xs (last_at xs fs x) 0) (height_at ys m (last_at xs fs x)) (get_or xs (next_after xs fs x) 0) (height_at ys m (next_after xs fs x)) x 255 (omega arith) (omega arith))
    either x false = omega arith
