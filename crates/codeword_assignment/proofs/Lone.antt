-- A sole used entry is the first that is used; and what the mark of a book says. Assumes nothing.
use Prim.Native.Nat.{ℕ, suc, ◌+◌, ◌-◌, ◌≤◌, ◌<◌}
use native.Mathlib.Numerals.{add-one}
use native.Mathlib.Omega.{arith}
use mathlib.Core.Bool.{Bool, true, false, cond, not}
use mathlib.Core.List.{List, [], ◌∷◌}
use mathlib.Core.Logic.{⊎_elim}
use mathlib.Core.Path.{◌≡◌, refl, sym, ◌∙◌}
use lib.Dec.{eqb}
use lib.ListN.{length, get_or}
use borrow.Author.Tests.{ne_eqb, not-true, not-false}
use Rattle.reading.proofs.Least.{lowest_is, below_suc}
use Rattle.codeword_assignment.specs.Book.{used, is_used, is_lone, first_used, lone_mark}

-- where no entry is used, nothing is entered
pub none_used : (ls : List ℕ) → ((u : ℕ) → u < length ls → is_used ls u ≡ false) → used ls ≡ []
unfolding used is_used
none_used [] h = refl
none_used (l ∷ ls) h =
    let z : eqb l 0 ≡ true = not-false _ (h 0 (omega arith)) in
    rw z (none_used ls (λ u m. h (suc u) (omega arith)))

-- the loop that looks for the first used entry: none of those passed is
pub used_passed : (ls : List ℕ) (e : ℕ) → ((u : ℕ) → u < e → is_used ls u ≡ false) → get_or ls e 0 ≡ 0 → (u : ℕ) → u < e + 1 → is_used ls u ≡ false
unfolding is_used
used_passed ls e h z u l = ⊎_elim (λ (m : u < e). h u m) (λ (q : u ≡ e). rw (q, z)) (below_suc (rw add-one at l))

module _ (ls : List ℕ) (lone : is_lone (used ls) ≡ true) (r : ℕ) (h : (u : ℕ) → u < r → is_used ls u ≡ false) where
  -- a sole entry is there
  pub lone_there : length ls ≤ r → ⊥
  unfolding is_lone
  lone_there l =
      let e : used ls ≡ [] = none_used ls (λ u m. h u (omega arith)) in
      let f : false ≡ true = rw e at lone in
      let z : ◌≡◌ {A = ℕ} 0 1 = cc in
      omega arith

  pub first_is : (get_or ls r 0 ≡ 0 → ⊥) → r < length ls → first_used ls ≡ r
  unfolding first_used is_used
  first_is u l = rw (lowest_is (is_used ls) (length ls) r l (rw (ne_eqb _ _ u)) h)

-- the mark as the code makes it
module _ (ls : List ℕ) {b : Bool} (e : b ≡ is_lone (used ls)) where
  pub mark_zero : not b ≡ true → 0 ≡ lone_mark ls
  unfolding lone_mark
  mark_zero n = rw (← e, not-true b n)

  module _ (n : not b ≡ false) where
    pub mark_asked : is_lone (used ls) ≡ true
    mark_asked = sym e ∙ not-false b n

    pub mark_entry : {f : ℕ} → f ≡ first_used ls → f + 1 ≡ lone_mark ls
    unfolding lone_mark
    mark_entry h = rw (mark_asked, h)

-- and what it says: a book without a sole used entry has 0 there, any other its entry
module _ (ls : List ℕ) {m : ℕ} (e : m ≡ lone_mark ls) where
  pub mark_none : m ≡ 0 → is_lone (used ls) ≡ false
  unfolding lone_mark
  mark_none z = go (is_lone (used ls)) e
    where
      go : (t : Bool) → m ≡ cond t (first_used ls + 1) 0 → t ≡ false
      go false f = refl
      go true f = absurd (omega arith)

  pub mark_lone : (m ≡ 0 → ⊥) → (is_lone (used ls) ≡ true) × (m - 1 ≡ first_used ls)
  unfolding lone_mark
  mark_lone n = go (is_lone (used ls)) e
    where
      go : (t : Bool) → m ≡ cond t (first_used ls + 1) 0 → (t ≡ true) × (m - 1 ≡ first_used ls)
      go false f = absurd (n f)
      go true f = (refl, omega arith)
