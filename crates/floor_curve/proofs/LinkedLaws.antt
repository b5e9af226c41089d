-- Laws of the flagged points in a list linked in order of X: the next one is found by walking it, and the last one is where the drawing stands. Assumes nothing.
use Prim.Native.Nat.{ℕ, ◌-◌, ◌≤◌, ◌<◌}
use native.Mathlib.Nat.{eq-or-lt_of_le}
use native.Mathlib.Omega.{arith}
use mathlib.Core.List.{List}
use mathlib.Core.Logic.{⊎_elim}
use mathlib.Core.Path.{◌≡◌, sym, ap, ◌∙◌}
use lib.ListN.{length, get_or}
use Rattle.reading.proofs.Least.{lt_or_le}
use Rattle.floor_line.specs.Inner.Order.{Follows, Ordered}
use Rattle.floor_line.proofs.Searching.{search_keeps}
use Rattle.floor_curve.specs.Curve.{x_or, takes_left, takes_right, last_at, next_after, height_at, curve_at, places}
use Rattle.floor_curve.specs.Inner.Drawing.{Drawn, Flat, Points}
use Rattle.floor_curve.proofs.PointLaws.{within, past, next_is, next_le}
use Rattle.floor_curve.proofs.CurveLaws.{DrawnUpTo, up_to_begin, up_to_line, up_to_flat, next_right}

-- ---- where the points found lie
last_within : (xs fs : List ℕ) (x : ℕ) → 0 < length xs → last_at xs fs x < length xs
unfolding last_at
last_within xs fs x h = search_keeps (takes_left xs fs x) (λ (k : ℕ). k < length xs) (length xs) 0 0 h (λ k best a b q t. omega arith)

next_within : (xs fs : List ℕ) (x : ℕ) → next_after xs fs x ≤ length xs
unfolding next_after
next_within xs fs x = search_keeps (takes_right xs fs x) (λ (k : ℕ). k ≤ length xs) (length xs) (length xs) 0 (omega arith) (λ k best a b q t. omega arith)

-- ---- walking from a point to the next
-- no flagged point lies right of l and at or left of p
pub record Passed (xs fs : List ℕ) (l p : ℕ) : Type 0 where
  pub inside : p < length xs
  pub right : get_or xs l 0 ≤ get_or xs p 0
  pub free : (k : ℕ) → k < length xs → (get_or fs k 0 ≡ 0 → ⊥) → get_or xs l 0 < get_or xs k 0 → get_or xs p 0 < get_or xs k 0

pub passed_begin : (xs fs : List ℕ) (l : ℕ) → l < length xs → Passed xs fs l l
passed_begin xs fs l h = record { inside = h; right = omega arith; free = λ k i f a. a }

module _ (xs fs after : List ℕ) (o : Ordered xs after) where
  same_place : (j k : ℕ) → j < length xs → k < length xs → get_or xs j 0 ≡ get_or xs k 0 → j ≡ k
  same_place j k a b e = o.linked.distinct j k a b o.rising e

  follows : (p : ℕ) → p < length xs → (p ≡ 1 → ⊥) → Follows xs (length xs) p (get_or after p 0)
  follows p h d =
      o.linked.next p h
      (⊎_elim (λ (l : get_or xs p 0 < get_or xs 1 0). l)
      (λ (l : get_or xs 1 0 ≤ get_or xs p 0). absurd (d (same_place p 1 h o.some (omega (arith, o.linked.top p h o.rising)))))
      (lt_or_le (get_or xs p 0) (get_or xs 1 0)))

  all_small : (k : ℕ) → get_or xs k 0 < 65536
  all_small k =
      ⊎_elim (λ (h : k < length xs). omega (arith, o.small, o.linked.top k h o.rising)) (λ (h : length xs ≤ k). omega (arith, past xs k 0 h)) (lt_or_le k (length xs))

  module _ (l p : ℕ) (w : Passed xs fs l p) where
    module _ (d : p ≡ 1 → ⊥) where
      pub passed_inside : get_or after p 0 < length xs
      passed_inside = (follows p w.inside d).earlier

      pub passed_less : get_or xs 1 0 - get_or xs (get_or after p 0) 0 < get_or xs 1 0 - get_or xs p 0
      passed_less =
          let f = follows p w.inside d in omega (arith, f.above, o.linked.top (get_or after p 0) f.earlier o.rising)

      -- the next place is not flagged
      pub passed_turn : get_or fs (get_or after p 0) 0 ≡ 0 → Passed xs fs l (get_or after p 0)
      passed_turn u =
          let f = follows p w.inside d in
          record {
            inside = f.earlier;
            right = omega (arith, f.above, w.right);
            free = λ k i g a.
                ⊎_elim (λ (e : get_or xs (get_or after p 0) 0 ≡ get_or xs k 0). absurd (g (rw (same_place (get_or after p 0) k f.earlier i e) at u)))
                (λ (b : get_or xs (get_or after p 0) 0 < get_or xs k 0). b)
                (eq-or-lt_of_le (f.least k i (w.free k i g a)));
          }

      -- the next place is flagged
      pub passed_found : (get_or fs (get_or after p 0) 0 ≡ 0 → ⊥) → get_or after p 0 ≡ next_after xs fs (get_or xs l 0)
      passed_found g =
          let f = follows p w.inside d in
          let q = next_after xs fs (get_or xs l 0) in
          let le : x_or xs q ≤ get_or xs (get_or after p 0) 0 = next_le xs fs (get_or xs l 0) (get_or after p 0) f.earlier g (omega (arith, f.above, w.right)) in
          let i : q < length xs =
          ⊎_elim (λ (h : q < length xs). h) (λ (h : length xs ≤ q). absurd (omega (arith, all_small (get_or after p 0), past xs q 65536 h))) (lt_or_le q (length xs)) in
          let n = next_is xs fs (get_or xs l 0) i in
          let e = within xs q 0 65536 i in
          same_place (get_or after p 0) q f.earlier i (omega (arith, f.least q i (w.free q i n.0 (omega (arith, n.1)))))

    -- the last place in order of X is reached
    pub passed_end : p ≡ 1 → length xs ≡ next_after xs fs (get_or xs l 0)
    passed_end e =
        let q = next_after xs fs (get_or xs l 0) in
        ⊎_elim
        (λ (i : q < length xs).
        let n = next_is xs fs (get_or xs l 0) i in
        let s = within xs q 0 65536 i in
        absurd (omega (arith, rw e at (w.free q i n.0 (omega (arith, n.1))), o.linked.top q i o.rising)))
        (λ (h : length xs ≤ q). omega (arith, next_within xs fs (get_or xs l 0)))
        (lt_or_le q (length xs))

-- ---- drawing along the list
-- the curve is drawn up to the place at which point l lies
pub record DrawnUpToPoint (xs ys fs : List ℕ) (m : ℕ) (before now : List ℕ) (at l : ℕ) : Type 0 where
  pub drawn : DrawnUpTo xs ys fs m before now at
  pub last : l ≡ last_at xs fs at
  pub here : get_or xs l 0 ≡ at
  pub inside : l < length xs

module _ (xs ys fs after : List ℕ) (m : ℕ) (before : List ℕ) (p : Points xs ys fs) (o : Ordered xs after) where
  reached : (now : List ℕ) (at l : ℕ) → DrawnUpTo xs ys fs m before now at → get_or xs l 0 ≡ at → l < length xs → DrawnUpToPoint xs ys fs m before now at l
  reached now at l s e h =
      record { drawn = s; last = same_place xs fs after o l (last_at xs fs at) h (last_within xs fs at p.some) (e ∙ sym s.here); here = e; inside = h }

  pub point_begin : DrawnUpToPoint xs ys fs m before before 0 0
  point_begin = reached before 0 0 (up_to_begin xs ys fs m before p) p.begins p.some

  module _ (now : List ℕ) (at l r : ℕ) (s : DrawnUpToPoint xs ys fs m before now at l) (e : r ≡ next_after xs fs (get_or xs l 0)) where
    pub point_next : r ≡ next_after xs fs at
    point_next = e ∙ ap (λ (a : ℕ). next_after xs fs a) s.here

    pub point_right : (w : ℕ) → r < length xs → w ≡ get_or xs r 0 → at < w
    point_right w h q = next_right xs fs at r w point_next h q

    pub point_line : (drawn : List ℕ) (x0 y0 x1 y1 w : ℕ) → r < length xs → x0 ≡ get_or xs l 0 → y0 ≡ height_at ys m l → x1 ≡ get_or xs r 0 → y1 ≡ height_at ys m r
        → Drawn x0 y0 x1 y1 now drawn → w ≡ x1 → DrawnUpToPoint xs ys fs m before drawn w r
    point_line drawn x0 y0 x1 y1 w h e0 f0 e1 f1 d ew =
        reached drawn w r (up_to_line xs ys fs m before now drawn at l r x0 y0 x1 y1 w p s.drawn s.last point_next h e0 f0 e1 f1 d ew) (sym (ew ∙ e1)) h

    pub point_flat : (drawn : List ℕ) (y : ℕ) → r ≡ length xs → y ≡ height_at ys m l → Flat at y now drawn
        → drawn ≡ places (curve_at xs ys fs m) 0 (length before)
    point_flat drawn y h f d = up_to_flat xs ys fs m before now drawn at l r y (all_small xs fs after o) s.drawn s.last point_next h f d
