-- Laws of the neighbours: one for each way out of a turn, and where the place held lies. Assumes nothing.
use Prim.Native.Nat.{ℕ, ◌-◌, ◌≤◌, ◌<◌}
use native.Mathlib.Nat.{sub-zero}
use native.Mathlib.Omega.{arith}
use mathlib.Core.Bool.{true, false, cond}
use mathlib.Core.List.{List}
use mathlib.Core.Logic.{⊎_elim}
use mathlib.Core.Path.{◌≡◌, refl, sym}
use borrow.Author.Tests.{lt-ltb, le-ltb, ltb-true}
use lib.Dec.{ltb}
use lib.ListN.{get_or}
use Rattle.reading.proofs.Least.{lt_or_le, and_split, true_not_false}
use Rattle.floor_line.specs.Search.{searched}
use Rattle.floor_line.specs.Neighbours.{takes_low, takes_high, low_neighbour, high_neighbour, IsLow, IsHigh}
use Rattle.floor_line.proofs.Searching.{search_keeps, search_best}

module _ (xs : List ℕ) (x j best : ℕ) where
  pub low_not_below : x ≤ get_or xs j 0 → best ≡ cond (takes_low xs x j best) j best
  unfolding takes_low
  low_not_below h = rw (le-ltb (get_or xs j 0) x h)

  pub low_not_greater : get_or xs j 0 < x → get_or xs j 0 ≤ get_or xs best 0 → best ≡ cond (takes_low xs x j best) j best
  unfolding takes_low
  low_not_greater h k = rw (lt-ltb (get_or xs j 0) x h, le-ltb (get_or xs best 0) (get_or xs j 0) k)

  pub low_takes : get_or xs j 0 < x → get_or xs best 0 < get_or xs j 0 → j ≡ cond (takes_low xs x j best) j best
  unfolding takes_low
  low_takes h k = rw (lt-ltb (get_or xs j 0) x h, lt-ltb (get_or xs best 0) (get_or xs j 0) k)

  pub high_not_above : get_or xs j 0 ≤ x → best ≡ cond (takes_high xs x j best) j best
  unfolding takes_high
  high_not_above h = rw (le-ltb x (get_or xs j 0) h)

  pub high_not_less : x < get_or xs j 0 → get_or xs best 0 ≤ get_or xs j 0 → best ≡ cond (takes_high xs x j best) j best
  unfolding takes_high
  high_not_less h k = rw (lt-ltb x (get_or xs j 0) h, le-ltb (get_or xs j 0) (get_or xs best 0) k)

  pub high_takes : x < get_or xs j 0 → get_or xs j 0 < get_or xs best 0 → j ≡ cond (takes_high xs x j best) j best
  unfolding takes_high
  high_takes h k = rw (lt-ltb x (get_or xs j 0) h, lt-ltb (get_or xs j 0) (get_or xs best 0) k)

module _ (xs : List ℕ) (i : ℕ) where
  pub low_begun : searched (takes_low xs (get_or xs i 0)) 0 0 (i - 0) ≡ low_neighbour xs i
  unfolding low_neighbour
  low_begun = rw sub-zero

  pub high_begun : searched (takes_high xs (get_or xs i 0)) 1 0 (i - 0) ≡ high_neighbour xs i
  unfolding high_neighbour
  high_begun = rw sub-zero

-- ---- the neighbours in 01's words
module _ (xs : List ℕ) (x j best : ℕ) where
  low_inv : takes_low xs x j best ≡ true → (get_or xs j 0 < x) × (get_or xs best 0 < get_or xs j 0)
  unfolding takes_low
  low_inv e = let p = and_split (ltb (get_or xs j 0) x) _ e in (ltb-true (get_or xs j 0) x p.0, ltb-true (get_or xs best 0) (get_or xs j 0) p.1)

  low_false : get_or xs j 0 < x → takes_low xs x j best ≡ false → get_or xs j 0 ≤ get_or xs best 0
  unfolding takes_low
  low_false h e =
      ⊎_elim (λ (l : get_or xs best 0 < get_or xs j 0). absurd (true_not_false true refl (sym (rw (lt-ltb (get_or xs j 0) x h, lt-ltb (get_or xs best 0) (get_or xs j 0) l) at (sym e)))))
      (λ (l : get_or xs j 0 ≤ get_or xs best 0). l) (lt_or_le (get_or xs best 0) (get_or xs j 0))

  high_inv : takes_high xs x j best ≡ true → (x < get_or xs j 0) × (get_or xs j 0 < get_or xs best 0)
  unfolding takes_high
  high_inv e = let p = and_split (ltb x (get_or xs j 0)) _ e in (ltb-true x (get_or xs j 0) p.0, ltb-true (get_or xs j 0) (get_or xs best 0) p.1)

  high_false : x < get_or xs j 0 → takes_high xs x j best ≡ false → get_or xs best 0 ≤ get_or xs j 0
  unfolding takes_high
  high_false h e =
      ⊎_elim (λ (l : get_or xs j 0 < get_or xs best 0). absurd (true_not_false true refl (sym (rw (lt-ltb x (get_or xs j 0) h, lt-ltb (get_or xs j 0) (get_or xs best 0) l) at (sym e)))))
      (λ (l : get_or xs best 0 ≤ get_or xs j 0). l) (lt_or_le (get_or xs j 0) (get_or xs best 0))

pub is_low : (xs : List ℕ) (i r : ℕ) → 0 < i → r ≡ low_neighbour xs i → get_or xs 0 0 < get_or xs i 0 → IsLow xs i r
unfolding low_neighbour
is_low xs i r z e h =
    let t = takes_low xs (get_or xs i 0) in
    rw e
    (record {
      earlier = search_keeps t (λ (k : ℕ). k < i) i 0 0 z (λ k best a b q s. omega arith);
      below = search_keeps t (λ (k : ℕ). get_or xs k 0 < get_or xs i 0) i 0 0 h (λ k best a b q s. (low_inv xs (get_or xs i 0) k best s).0);
      greatest = λ j l f.
          (search_best t (λ (a b : ℕ). get_or xs a 0 ≤ get_or xs b 0) (λ a. omega arith) (λ a b c p q. omega arith)
          (λ k best s. omega (arith, (low_inv xs (get_or xs i 0) k best s).1)) (λ (k : ℕ). get_or xs k 0 < get_or xs i 0) (λ k best w s. low_false xs (get_or xs i 0) k best w s) i 0 0
          ).1 j (omega arith) (omega arith) f;
    })

pub is_high : (xs : List ℕ) (i r : ℕ) → 1 < i → r ≡ high_neighbour xs i → get_or xs i 0 < get_or xs 1 0 → IsHigh xs i r
unfolding high_neighbour
is_high xs i r z e h =
    let t = takes_high xs (get_or xs i 0) in
    rw e
    (record {
      earlier = search_keeps t (λ (k : ℕ). k < i) i 1 0 z (λ k best a b q s. omega arith);
      above = search_keeps t (λ (k : ℕ). get_or xs i 0 < get_or xs k 0) i 1 0 h (λ k best a b q s. (high_inv xs (get_or xs i 0) k best s).0);
      least = λ j l f.
          (search_best t (λ (a b : ℕ). get_or xs b 0 ≤ get_or xs a 0) (λ a. omega arith) (λ a b c p q. omega arith)
          (λ k best s. omega (arith, (high_inv xs (get_or xs i 0) k best s).1)) (λ (k : ℕ). get_or xs i 0 < get_or xs k 0) (λ k best w s. high_false xs (get_or xs i 0) k best w s) i 1 0
          ).1 j (omega arith) (omega arith) f;
    })
