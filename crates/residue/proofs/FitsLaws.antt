-- Laws of rule 13 as the code asks them. Assumes nothing.
use Prim.Native.Nat.{ℕ, ◌-◌, ◌%◌}
use borrow.Author.Tests.{eq-eqb, ne_eqb}
use mathlib.Core.Bool.{Bool, true, false, not, ◌&&◌}
use mathlib.Core.List.{List, [], ◌∷◌}
use mathlib.Core.Logic.{◌↔◌}
use mathlib.Core.Path.{◌≡◌, refl, sym, ap, ◌∙◌}
use lib.Dec.{eqb}
use Rattle.std.specs.Bool.{IsTrue}
use Rattle.std.specs.List.{list_all}
use Rattle.reading.specs.Lists.{all, rows}
use Rattle.book.specs.Layout.{dimensions_at, lookup_at}
use Rattle.residue.specs.Reading.{place_fits}
use Rattle.residue.specs.Inner.FromTable.{books_of}
use Rattle.residue.proofs.RowsLaws.{all_append}

-- a place
module _ (t : List ℕ) (size b : ℕ) where
  pub empty_place : b ≡ 0 → true ≡ place_fits (books_of 0 t) size b
  unfolding place_fits
  empty_place e = rw (eq-eqb b 0 e)

  module _ (some : b ≡ 0 → ⊥) {l : ℕ} (p : l ≡ lookup_at t (b - 1)) where
    pub no_values : l ≡ 0 → not (eqb l 0) ≡ place_fits (books_of 0 t) size b
    unfolding place_fits
    no_values e = rw (ne_eqb b 0 some, ← p, eq-eqb l 0 e)

    pub divides : (l ≡ 0 → ⊥) → {d : ℕ} → d ≡ dimensions_at t (b - 1) → {r : Bool} → (IsTrue r ↔ (size % d ≡ 0)) → r ≡ place_fits (books_of 0 t) size b
    unfolding place_fits
    divides values {d} q {r} said = rw (ne_eqb b 0 some, ← p, ne_eqb l 0 values, ← q) (by r said)
      where
        by : (r : Bool) → IsTrue r ↔ (size % d ≡ 0) → r ≡ eqb (size % d) 0
        by true said = sym (eq-eqb _ _ (said.0 refl))
        by false said = sym (ne_eqb _ _ (λ e. let n = said.1 e in cc))

-- a test of all places, and of all rows
pub list_all-all : (f : ℕ → Bool) (l : List ℕ) → list_all f l ≡ all f l
unfolding all
list_all-all f [] = refl
list_all-all f (x ∷ l) = ap (λ (b : Bool). f x && b) (list_all-all f l)

pub list_all-rows : (f : ℕ → Bool) (plan : List (List ℕ)) → list_all (λ row. all f row) plan ≡ all f (rows (λ row. row) plan)
unfolding all rows
list_all-rows f [] = refl
list_all-rows f (row ∷ plan) = ap (λ (b : Bool). all f row && b) (list_all-rows f plan) ∙ sym (all_append f row (rows (λ row. row) plan))
