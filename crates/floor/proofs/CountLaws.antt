-- The counts of a floor's classes and X values are those of its content, wherever its partitions and classes lie in buffers. Assumes nothing.
use Prim.Native.Nat.{ℕ, zero, suc, ◌+◌, ◌*◌, ◌≤◌, ◌<◌, max}
use native.Mathlib.Nat.{mul-suc, add_comm}
use native.Mathlib.Omega.{arith}
use borrow.Author.Tests.{ltb-true}
use mathlib.Core.Bool.{true}
use mathlib.Core.List.{List, [], ◌∷◌, ◌++◌, map}
use mathlib.Core.Path.{◌≡◌, refl, ap, ◌∙◌}
use lib.Dec.{ltb}
use lib.ListN.{length, get_or}
use lib.Seq.{get_or-append-add}
use Rattle.reading.specs.Lists.{all, rows}
use Rattle.reading.specs.Pad.{pad}
use Rattle.reading.proofs.Least.{and_split}
use Rattle.reading.proofs.Pads.{pad_get}
use Rattle.floor.specs.Content.{Class, class_count, value_count}
use Rattle.floor.specs.Layout.{class_row}
use Rattle.floor.specs.Inner.Counts.{classes_to, values_to}
use Rattle.floor.proofs.ClassDecoded.{class_long}

-- counting partitions from the front
classes_cons : (x : ℕ) (l : List ℕ) (n : ℕ) → classes_to (x ∷ l) (suc n) ≡ max (suc x) (classes_to l n)
unfolding classes_to
classes_cons x l zero = omega arith
classes_cons x l (suc n) = let e = classes_cons x l n in omega arith

pub classes_counted : (room : ℕ) (ps : List ℕ) → length ps ≤ room → classes_to (pad room ps) (length ps) ≡ class_count ps
unfolding pad classes_to class_count
classes_counted room [] h = refl
classes_counted zero (p ∷ ps) h = absurd (omega arith)
classes_counted (suc room) (p ∷ ps) h =
    let e = classes_counted room ps (omega arith) in
    classes_cons p (pad room ps) (length ps) ∙ ap (max (suc p)) e

pub class_count_most : (ps : List ℕ) → all (λ c. ltb c 16) ps ≡ true → class_count ps ≤ 16
unfolding class_count all
class_count_most [] h = omega arith
class_count_most (p ∷ ps) h =
    let a = and_split (ltb p 16) (all (λ c. ltb c 16) ps) h in
    let l = ltb-true p 16 a.0 in
    let e = class_count_most ps a.1 in
    omega arith

values_cons : (cs : List ℕ) (x : ℕ) (l : List ℕ) (n : ℕ) → values_to cs (x ∷ l) (suc n) ≡ get_or cs (11 * x) 0 + values_to cs l n
unfolding values_to
values_cons cs x l zero = omega arith
values_cons cs x l (suc n) = let e = values_cons cs x l n in omega arith

-- the dimensions of class c lie at the start of its row
dimensions_row : (cs : List Class) (c : ℕ) → get_or (rows class_row cs) (11 * c) 0 ≡ get_or (map (λ (x : Class). x.dimensions) cs) c 0
unfolding rows
dimensions_row [] c = refl
dimensions_row (x ∷ cs) zero = unfold class_row in refl
dimensions_row (x ∷ cs) (suc c) =
    let e : 11 * suc c ≡ length (class_row x) + 11 * c = rw (mul-suc, class_long x, add_comm) in
    ap (λ (j : ℕ). get_or (class_row x ++ rows class_row cs) j 0) e ∙ get_or-append-add (class_row x) (rows class_row cs) (11 * c) 0 ∙ dimensions_row cs c

pub dimensions_at_lem : (cs : List Class) (c : ℕ) → c < 16 → get_or (pad 176 (rows class_row cs)) (11 * c) 0 ≡ get_or (map (λ (x : Class). x.dimensions) cs) c 0
dimensions_at_lem cs c h = pad_get 176 (rows class_row cs) (11 * c) (omega arith) ∙ dimensions_row cs c

pub values_counted : (cs : List Class) (room : ℕ) (ps : List ℕ) → length ps ≤ room → all (λ c. ltb c 16) ps ≡ true
    → values_to (pad 176 (rows class_row cs)) (pad room ps) (length ps) ≡ value_count (map (λ (x : Class). x.dimensions) cs) ps
unfolding pad values_to value_count all
values_counted cs room [] h a = refl
values_counted cs zero (p ∷ ps) h a = absurd (omega arith)
values_counted cs (suc room) (p ∷ ps) h a =
    let b = and_split (ltb p 16) (all (λ c. ltb c 16) ps) a in
    let e = values_counted cs room ps (omega arith) b.1 in
    let d = dimensions_at_lem cs p (ltb-true p 16 b.0) in
    values_cons (pad 176 (rows class_row cs)) p (pad room ps) (length ps)
    ∙ (λ j. d j + e j)
