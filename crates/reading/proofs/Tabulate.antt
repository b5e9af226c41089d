-- Laws of `tabulate`: its length, its places, and how it is filled from the front. Assumes nothing.
use mathlib.Core.List.{List, [], ◌∷◌}
use mathlib.Core.Path.{◌≡◌, refl, sym, ◌∙◌}
use mathlib.Core.Logic.{⊎_elim}
use Prim.Native.Nat.{ℕ, zero, suc, ◌+◌, ◌≤◌, ◌<◌}
use native.Mathlib.Numerals.{add-one}
use native.Mathlib.Omega.{arith}
use lib.ListN.{length, get_or, set, take, length-append, get_or-append}
use lib.Seq.{get_or_at, take-suc-set, take_all}
use Rattle.reading.specs.Tabulate.{tabulate}
use Rattle.reading.proofs.Least.{below_suc}

module _ (g : ℕ → ℕ) where
  pub tabulate-length : (n : ℕ) → length (tabulate g n) ≡ n
  unfolding tabulate
  tabulate-length zero = refl
  tabulate-length (suc n) = let e = tabulate-length n in simp length-append (omega arith)

  pub tabulate_at : (n i : ℕ) → i < n → get_or (tabulate g n) i 0 ≡ g i
  unfolding tabulate
  tabulate_at zero i h = absurd (omega arith)
  tabulate_at (suc n) i h =
      let e = tabulate-length n in
      ⊎_elim
      (λ (l : i < n). get_or-append (tabulate g n) (g n ∷ []) 0 i (omega arith) ∙ tabulate_at n i l)
      (λ (q : i ≡ n). rw q (get_or_at (tabulate g n) (g n) [] 0 n e))
      (below_suc h)

  -- a list whose first i places hold the values, with the next one stored
  pub tabulate_store : (l : List ℕ) (i v : ℕ) → i < length l → v ≡ g i → take i l ≡ tabulate g i → take (i + 1) (set l i v) ≡ tabulate g (i + 1)
  unfolding tabulate
  tabulate_store l i v h e w = rw (add-one, take-suc-set l i v h, w, e)

  -- a list all of whose places hold the values
  pub tabulate_all : (l : List ℕ) (i n : ℕ) → length l ≡ n → i ≤ n → n ≤ i → take i l ≡ tabulate g i → l ≡ tabulate g n
  tabulate_all l i n k a b w =
      let same : i ≡ n = omega arith in
      sym (take_all n l (omega arith)) ∙ rw same at w
