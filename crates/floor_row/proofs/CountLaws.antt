-- Laws of counting classes and X values as the code asks them, as far as a place. Assumes nothing.
use Prim.Native.Nat.{ℕ, ◌+◌, ◌*◌, max}
use native.Mathlib.Numerals.{add-one}
use borrow.Author.Rules.{rules}
use mathlib.Core.List.{List}
use mathlib.Core.Path.{◌≡◌, refl, ◌∙◌}
use lib.ListN.{get_or}
use Rattle.floor.specs.Inner.Counts.{classes_to, values_to}

-- the counts, as far as place i
pub classes_none : (l : List ℕ) → 0 ≡ classes_to l 0
unfolding classes_to
classes_none l = refl

pub classes_next : (l : List ℕ) (i : ℕ) {m v r : ℕ} → m ≡ classes_to l i → v ≡ get_or l i 0 → r ≡ max m (v + 1) → r ≡ classes_to l (i + 1)
unfolding classes_to
classes_next l i e f h = h ∙ rw (e, f, add-one, add-one)

pub values_none : (cs l : List ℕ) → 0 ≡ values_to cs l 0
unfolding values_to
values_none cs l = refl

pub values_next : (cs l : List ℕ) (i : ℕ) {m v x : ℕ} → m ≡ values_to cs l i → v ≡ get_or l i 0 → x ≡ get_or cs (11 * v) 0 → m + x ≡ values_to cs l (i + 1)
unfolding values_to
values_next cs l i e f h = rw (add-one, e, h, f)

pub ruleset count_laws = (rules, classes_none, classes_next, values_none, values_next)
