-- Laws of the flagged points around a place: one for each way out of a turn of the search, what the place found is, and that it is the same from one
-- point up to the next. Assumes nothing.
use Prim.Native.Nat.{ℕ, zero, suc, ◌+◌, ◌-◌, ◌≤◌, ◌<◌}
use native.Mathlib.Nat.{sub-zero}
use native.Mathlib.Omega.{arith}
use mathlib.Core.Bool.{Bool, true, false, not, cond, ◌&&◌}
use mathlib.Core.List.{List, [], ◌∷◌}
use mathlib.Core.Logic.{⊎_elim}
use mathlib.Core.Path.{◌≡◌, refl, sym, ◌∙◌}
use lib.Dec.{eqb, leb, ltb}
use lib.ListN.{length, get_or}
use borrow.Author.Tests.{lt-ltb, le-ltb, le-leb, lt-leb, eq-eqb, ne_eqb, ltb-true, leb-true, eqb-false, not-true}
use Rattle.reading.proofs.Least.{lt_or_le, and_split, true_not_false}
use Rattle.floor_line.specs.Search.{searched}
use Rattle.floor_line.proofs.Searching.{search_keeps, search_same, search_best}
use Rattle.floor_line.proofs.Integers.{same_leb, same_ltb}
use Rattle.floor_curve.specs.Curve.{is_set, x_or, takes_left, takes_right, last_at, next_after, IsLast, IsNext}

-- a list read past its end gives what is asked for there, and else does not mind
pub within : (l : List ℕ) (j a b : ℕ) → j < length l → get_or l j a ≡ get_or l j b
within [] j a b h = absurd (omega arith)
within (x ∷ l) zero a b h = refl
within (x ∷ l) (suc j) a b h = within l j a b (omega arith)

pub past : (l : List ℕ) (j a : ℕ) → length l ≤ j → get_or l j a ≡ a
past [] j a h = refl
past (x ∷ l) zero a h = absurd (omega arith)
past (x ∷ l) (suc j) a h = past l j a (omega arith)

module _ (xs fs : List ℕ) (x j best : ℕ) where
  pub left_unset : get_or fs j 0 ≡ 0 → best ≡ cond (takes_left xs fs x j best) j best
  unfolding takes_left
  left_unset h = rw (eq-eqb (get_or fs j 0) 0 h)

  pub left_right : (get_or fs j 0 ≡ 0 → ⊥) → x < get_or xs j 0 → best ≡ cond (takes_left xs fs x j best) j best
  unfolding takes_left
  left_right h k = rw (ne_eqb (get_or fs j 0) 0 h, lt-leb (get_or xs j 0) x k)

  pub left_best : (get_or fs j 0 ≡ 0 → ⊥) → get_or xs j 0 ≤ x → get_or xs j 0 ≤ get_or xs best 0 → best ≡ cond (takes_left xs fs x j best) j best
  unfolding takes_left
  left_best h k l = rw (ne_eqb (get_or fs j 0) 0 h, le-leb (get_or xs j 0) x k, le-ltb (get_or xs best 0) (get_or xs j 0) l)

  pub left_takes : (get_or fs j 0 ≡ 0 → ⊥) → get_or xs j 0 ≤ x → get_or xs best 0 < get_or xs j 0 → j ≡ cond (takes_left xs fs x j best) j best
  unfolding takes_left
  left_takes h k l = rw (ne_eqb (get_or fs j 0) 0 h, le-leb (get_or xs j 0) x k, lt-ltb (get_or xs best 0) (get_or xs j 0) l)

  pub right_unset : get_or fs j 0 ≡ 0 → best ≡ cond (takes_right xs fs x j best) j best
  unfolding takes_right
  right_unset h = rw (eq-eqb (get_or fs j 0) 0 h)

  -- the program reads X at j, which lies in the list
  pub right_left : j < length xs → (get_or fs j 0 ≡ 0 → ⊥) → get_or xs j 0 ≤ x → best ≡ cond (takes_right xs fs x j best) j best
  unfolding takes_right
  right_left i h k = rw (← within xs j 0 65536 i, ne_eqb (get_or fs j 0) 0 h, le-ltb x (get_or xs j 0) k)

  pub right_best : j < length xs → (get_or fs j 0 ≡ 0 → ⊥) → x < get_or xs j 0 → x_or xs best ≤ get_or xs j 0 → best ≡ cond (takes_right xs fs x j best) j best
  unfolding takes_right
  right_best i h k l = rw (← within xs j 0 65536 i, ne_eqb (get_or fs j 0) 0 h, lt-ltb x (get_or xs j 0) k, le-ltb (get_or xs j 0) (x_or xs best) l)

  pub right_takes : j < length xs → (get_or fs j 0 ≡ 0 → ⊥) → x < get_or xs j 0 → get_or xs j 0 < x_or xs best → j ≡ cond (takes_right xs fs x j best) j best
  unfolding takes_right
  right_takes i h k l = rw (← within xs j 0 65536 i, ne_eqb (get_or fs j 0) 0 h, lt-ltb x (get_or xs j 0) k, lt-ltb (get_or xs j 0) (x_or xs best) l)

pub x_within : (xs : List ℕ) (j w : ℕ) → j < length xs → w ≡ get_or xs j 0 → w ≡ x_or xs j
x_within xs j w h e = e ∙ within xs j 0 65536 h

pub x_past : (xs : List ℕ) (j : ℕ) → length xs ≤ j → 65536 ≡ x_or xs j
x_past xs j h = sym (past xs j 65536 h)

module _ (xs fs : List ℕ) (x : ℕ) where
  pub left_begun : searched (takes_left xs fs x) 0 0 (length xs - 0) ≡ last_at xs fs x
  unfolding last_at
  left_begun = rw sub-zero

  pub right_begun : searched (takes_right xs fs x) (length xs) 0 (length xs - 0) ≡ next_after xs fs x
  unfolding next_after
  right_begun = rw sub-zero

-- ---- what was found
-- a place that is flagged and at or left of x, and the other way round
record Lefter (xs fs : List ℕ) (x j : ℕ) : Type 0 where
  pub flag : get_or fs j 0 ≡ 0 → ⊥
  pub at : get_or xs j 0 ≤ x

record Righter (xs fs : List ℕ) (x j : ℕ) : Type 0 where
  pub flag : get_or fs j 0 ≡ 0 → ⊥
  pub at : x < x_or xs j

module _ (xs fs : List ℕ) (x : ℕ) where
  left_inv : (j best : ℕ) → takes_left xs fs x j best ≡ true → Lefter xs fs x j × (get_or xs best 0 < get_or xs j 0)
  unfolding takes_left
  left_inv j best e =
      let p = and_split (is_set fs j) _ e in
      let q = and_split (leb (get_or xs j 0) x) _ p.1 in
      (record { flag = eqb-false (get_or fs j 0) 0 (not-true _ p.0); at = leb-true (get_or xs j 0) x q.0 }, ltb-true (get_or xs best 0) (get_or xs j 0) q.1)

  right_inv : (j best : ℕ) → takes_right xs fs x j best ≡ true → Righter xs fs x j × (x_or xs j < x_or xs best)
  unfolding takes_right
  right_inv j best e =
      let p = and_split (is_set fs j) _ e in
      let q = and_split (ltb x (x_or xs j)) _ p.1 in
      (record { flag = eqb-false (get_or fs j 0) 0 (not-true _ p.0); at = ltb-true x (x_or xs j) q.0 }, ltb-true (x_or xs j) (x_or xs best) q.1)

  left_false : (j best : ℕ) → Lefter xs fs x j → takes_left xs fs x j best ≡ false → get_or xs j 0 ≤ get_or xs best 0
  unfolding takes_left
  left_false j best w e =
      ⊎_elim
      (λ (h : get_or xs best 0 < get_or xs j 0).
      absurd (true_not_false true refl (sym (rw (ne_eqb (get_or fs j 0) 0 w.flag, le-leb (get_or xs j 0) x w.at, lt-ltb (get_or xs best 0) (get_or xs j 0) h) at (sym e)))))
      (λ (h : get_or xs j 0 ≤ get_or xs best 0). h)
      (lt_or_le (get_or xs best 0) (get_or xs j 0))

  right_false : (j best : ℕ) → Righter xs fs x j → takes_right xs fs x j best ≡ false → x_or xs best ≤ x_or xs j
  unfolding takes_right
  right_false j best w e =
      ⊎_elim
      (λ (h : x_or xs j < x_or xs best).
      absurd (true_not_false true refl (sym (rw (ne_eqb (get_or fs j 0) 0 w.flag, lt-ltb x (x_or xs j) w.at, lt-ltb (x_or xs j) (x_or xs best) h) at (sym e)))))
      (λ (h : x_or xs best ≤ x_or xs j). h)
      (lt_or_le (x_or xs j) (x_or xs best))

  -- the last point at or left of x is at or left of x, and no flagged one lies between
  pub last_le : get_or xs 0 0 ≤ x → get_or xs (last_at xs fs x) 0 ≤ x
  unfolding last_at
  last_le h = search_keeps (takes_left xs fs x) (λ (k : ℕ). get_or xs k 0 ≤ x) (length xs) 0 0 h (λ k best a b q t. (left_inv k best t).0.at)

  pub last_ge : (k : ℕ) → k < length xs → (get_or fs k 0 ≡ 0 → ⊥) → get_or xs k 0 ≤ x → get_or xs k 0 ≤ get_or xs (last_at xs fs x) 0
  unfolding last_at
  last_ge k h f l =
      (search_best (takes_left xs fs x) (λ (a b : ℕ). get_or xs a 0 ≤ get_or xs b 0) (λ a. omega arith) (λ a b c p q. omega arith)
      (λ i best t. omega (arith, (left_inv i best t).1)) (λ (i : ℕ). Lefter xs fs x i) (λ i best w t. left_false i best w t) (length xs) 0 0
      ).1 k (omega arith) (omega arith) (record { flag = f; at = l })

  -- the next point right of x is flagged and right of x, and no flagged one lies between
  pub next_is : next_after xs fs x < length xs → (get_or fs (next_after xs fs x) 0 ≡ 0 → ⊥) × (x < x_or xs (next_after xs fs x))
  unfolding next_after
  next_is =
      search_keeps (takes_right xs fs x) (λ (k : ℕ). k < length xs → (get_or fs k 0 ≡ 0 → ⊥) × (x < x_or xs k)) (length xs) (length xs) 0
      (λ h. absurd (omega arith)) (λ k best a b q t h. ((right_inv k best t).0.flag, (right_inv k best t).0.at))

  pub next_le : (k : ℕ) → k < length xs → (get_or fs k 0 ≡ 0 → ⊥) → x < get_or xs k 0 → x_or xs (next_after xs fs x) ≤ get_or xs k 0
  unfolding next_after
  next_le k h f l =
      rw (within xs k 0 65536 h)
      ((search_best (takes_right xs fs x) (λ (a b : ℕ). x_or xs b ≤ x_or xs a) (λ a. omega arith) (λ a b c p q. omega arith)
      (λ i best t. omega (arith, (right_inv i best t).1)) (λ (i : ℕ). Righter xs fs x i) (λ i best w t. right_false i best w t) (length xs) (length xs) 0
      ).1 k (omega arith) (omega arith) (record { flag = f; at = rw (within xs k 0 65536 h) at l }))

pub is_last : (xs fs : List ℕ) (x r : ℕ) → r ≡ last_at xs fs x → get_or xs 0 0 ≤ x → IsLast xs fs x r
is_last xs fs x r e h = rw e (record { left = last_le xs fs x h; last = last_ge xs fs x })

pub is_next : (xs fs : List ℕ) (x r : ℕ) → r ≡ next_after xs fs x → IsNext xs fs x r
is_next xs fs x r e = rw e (record { flag = λ h. (next_is xs fs x h).0; right = λ h. (next_is xs fs x h).1; next = next_le xs fs x })

-- ---- from one point up to the next the points around a place are the same
-- no flagged point lies right of a and at or left of x
pub record Clear (xs fs : List ℕ) (a x : ℕ) : Type 0 where
  pub from : a ≤ x
  pub free : (k : ℕ) → k < length xs → (get_or fs k 0 ≡ 0 → ⊥) → a < get_or xs k 0 → x < get_or xs k 0

module _ (xs fs : List ℕ) (a x : ℕ) where
  left_same : Clear xs fs a x → (k best : ℕ) → 0 ≤ k → k < 0 + length xs → takes_left xs fs x k best ≡ takes_left xs fs a k best
  unfolding takes_left
  left_same w k best i h = go (eqb (get_or fs k 0) 0) refl
    where
      go : (t : Bool) → eqb (get_or fs k 0) 0 ≡ t
          → (not (eqb (get_or fs k 0) 0) && (leb (get_or xs k 0) x && ltb (get_or xs best 0) (get_or xs k 0))) ≡ (not (eqb (get_or fs k 0) 0) && (leb (get_or xs k 0) a && ltb (get_or xs best 0) (get_or xs k 0)))
      go true e = rw e
      go false e =
          rw (
            e,
            same_leb (get_or xs k 0) x (get_or xs k 0) a
                (λ p. ⊎_elim (λ (q : a < get_or xs k 0). absurd (omega (arith, w.free k (omega arith) (eqb-false (get_or fs k 0) 0 e) q))) (λ (q : get_or xs k 0 ≤ a). q) (lt_or_le a (get_or xs k 0)))
                (λ p. omega (arith, w.from)),
          )

  right_same : Clear xs fs a x → (k best : ℕ) → 0 ≤ k → k < 0 + length xs → takes_right xs fs x k best ≡ takes_right xs fs a k best
  unfolding takes_right
  right_same w k best i h = go (eqb (get_or fs k 0) 0) refl
    where
      go : (t : Bool) → eqb (get_or fs k 0) 0 ≡ t
          → (not (eqb (get_or fs k 0) 0) && (ltb x (x_or xs k) && ltb (x_or xs k) (x_or xs best))) ≡ (not (eqb (get_or fs k 0) 0) && (ltb a (x_or xs k) && ltb (x_or xs k) (x_or xs best)))
      go true e = rw e
      go false e =
          let s : get_or xs k 0 ≡ x_or xs k = within xs k 0 65536 (omega arith) in
          rw (
            e,
            same_ltb x (x_or xs k) a (x_or xs k) (λ p. omega (arith, w.from))
                (λ p. omega (arith, w.free k (omega arith) (eqb-false (get_or fs k 0) 0 e) (omega arith))),
          )

  pub last_same : Clear xs fs a x → last_at xs fs x ≡ last_at xs fs a
  unfolding last_at
  last_same w = search_same (takes_left xs fs x) (takes_left xs fs a) (length xs) 0 0 (left_same w)

  pub next_same : Clear xs fs a x → next_after xs fs x ≡ next_after xs fs a
  unfolding next_after
  next_same w = search_same (takes_right xs fs x) (takes_right xs fs a) (length xs) (length xs) 0 (right_same w)

  -- where the next point right of a lies right of x, and where there is none
  pub clear_next : a ≤ x → x < x_or xs (next_after xs fs a) → Clear xs fs a x
  clear_next h l = record { from = h; free = λ k i f q. omega (arith, next_le xs fs a k i f q) }

  pub clear_past : ((k : ℕ) → get_or xs k 0 < 65536) → a ≤ x → next_after xs fs a ≡ length xs → Clear xs fs a x
  clear_past s h e =
      record { from = h; free = λ k i f q. absurd (omega (arith, next_le xs fs a k i f q, s k, past xs (next_after xs fs a) 65536 (omega arith))) }
