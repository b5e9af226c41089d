-- Laws of a search along places: a turn, its end, and what is kept of the place held. Assumes nothing.
use Prim.Native.Nat.{ℕ, zero, suc, ◌+◌, ◌-◌, ◌≤◌, ◌<◌}
use native.Mathlib.Nat.{eq-or-lt_of_le}
use native.Mathlib.Numerals.{add-one}
use native.Mathlib.Omega.{arith}
use mathlib.Core.Bool.{Bool, true, false, cond}
use mathlib.Core.Logic.{⊎_elim}
use mathlib.Core.Path.{◌≡◌, refl, sym, ◌∙◌}
use Rattle.floor_line.specs.Search.{searched}

module _ (takes : ℕ → ℕ → Bool) where
  pub search_end : (best j n : ℕ) → n ≤ j → searched takes best j (n - j) ≡ best
  unfolding searched
  search_end best j n h = let e : n - j ≡ 0 = omega arith in rw e

  pub search_turn : (best j n : ℕ) → j < n → searched takes (cond (takes j best) j best) (j + 1) (n - (j + 1)) ≡ searched takes best j (n - j)
  unfolding searched
  search_turn best j n h = let e : n - j ≡ suc (n - (j + 1)) = omega arith in rw (e, add-one j)

  -- a turn and the end as the code asks them: r is the place held next, R what the whole search gives
  pub turned : (r best j n R : ℕ) → r ≡ cond (takes j best) j best → j < n → searched takes best j (n - j) ≡ R → searched takes r (j + 1) (n - (j + 1)) ≡ R
  turned r best j n R e h w = rw e (search_turn best j n h ∙ w)

  pub ended : (best j n R : ℕ) → n ≤ j → searched takes best j (n - j) ≡ R → best ≡ R
  ended best j n R h w = sym (search_end best j n h) ∙ w

  pub turned_below : (r best j n : ℕ) → r ≡ cond (takes j best) j best → j < n → best < n → r < n
  turned_below r best j n e p q = rw e (either (takes j best))
    where
      either : (t : Bool) → cond t j best < n
      either true = p
      either false = q

  -- what holds of the place held at first, and of each place that can take its place, holds of the place held at last
  pub search_keeps : (Q : ℕ → Type 0) (n best j : ℕ) → Q best → ((k h : ℕ) → j ≤ k → k < j + n → Q h → takes k h ≡ true → Q k) → Q (searched takes best j n)
  unfolding searched
  search_keeps Q zero best j q f = q
  search_keeps Q (suc n) best j q f =
      search_keeps Q n (cond (takes j best) j best) (suc j) (either (takes j best) refl) (λ k h a b. f k h (omega arith) (omega arith))
    where
      either : (t : Bool) → takes j best ≡ t → Q (cond t j best)
      either true e = f j best (omega arith) (omega arith) q e
      either false e = q

  -- a search by another test that gives the same for each place is the same
  pub search_same : (takes' : ℕ → ℕ → Bool) (n best j : ℕ) → ((k h : ℕ) → j ≤ k → k < j + n → takes k h ≡ takes' k h) → searched takes best j n ≡ searched takes' best j n
  unfolding searched
  search_same takes' zero best j f = refl
  search_same takes' (suc n) best j f =
      rw (f j best (omega arith) (omega arith)) (search_same takes' n (cond (takes' j best) j best) (suc j) (λ k h a b. f k h (omega arith) (omega arith)))

-- R a b: place b is as good as a. Where what takes a place is as good as what it takes it from, and a candidate that does not take the place is no
-- better than what is held, the place held at last is as good as every candidate.
module _ (takes : ℕ → ℕ → Bool) (R : ℕ → ℕ → Type 0) (same : (a : ℕ) → R a a) (chain : (a b c : ℕ) → R a b → R b c → R a c)
    (better : (k h : ℕ) → takes k h ≡ true → R h k) (C : ℕ → Type 0) (kept : (k h : ℕ) → C k → takes k h ≡ false → R k h) where
  pub search_best : (n best j : ℕ) → R best (searched takes best j n) × ((k : ℕ) → j ≤ k → k < j + n → C k → R k (searched takes best j n))
  unfolding searched
  search_best zero best j = (same best, λ k a b q. absurd (omega arith))
  search_best (suc n) best j = go (takes j best) refl (λ h. search_best n h (suc j))
    where
      go : (t : Bool) → takes j best ≡ t
          → ((h : ℕ) → R h (searched takes h (suc j) n) × ((k : ℕ) → suc j ≤ k → k < suc j + n → C k → R k (searched takes h (suc j) n)))
          → R best (searched takes (cond t j best) (suc j) n) × ((k : ℕ) → j ≤ k → k < j + suc n → C k → R k (searched takes (cond t j best) (suc j) n))
      go true e f = (
        chain best j _ (better j best e) (f j).0,
        λ k a b q. ⊎_elim (λ (p : j ≡ k). chain k j _ (rw (← p) (same j)) (f j).0) (λ (p : j < k). (f j).1 k (omega arith) (omega arith) q) (eq-or-lt_of_le a),
      )
      go false e f = (
        (f best).0,
        λ k a b q. ⊎_elim (λ (p : j ≡ k). chain k best _ (kept k best q (rw p at e)) (f best).0) (λ (p : j < k). (f best).1 k (omega arith) (omega arith) q) (eq-or-lt_of_le a),
      )
