-- A row is the row of one class only: what lies in the table where a class's row lies is that class. Assumes nothing.
use Prim.Native.Nat.{ℕ, zero, suc, ◌+◌, ◌*◌, ◌^◌, ◌≤◌}
use native.Mathlib.Nat.{mul-suc, add_comm}
use native.Mathlib.Omega.{arith}
use mathlib.Core.List.{List, [], ◌∷◌, ◌++◌}
use mathlib.Core.Path.{◌≡◌, refl, sym, ap, ◌∙◌}
use lib.ListN.{length, get_or}
use lib.Pow.{pow_mono}
use lib.Seq.{slice}
use Rattle.reading.specs.Lists.{rows}
use Rattle.reading.specs.Pad.{pad}
use Rattle.reading.specs.Encoding.{Each}
use Rattle.reading.proofs.Pads.{length-pad}
use Rattle.reading.proofs.Stored.{Stored, stored_at, stored_left, stored_right, stored_first, stored_rest, stored_slice}
use Rattle.reading.proofs.Encodes.{pad_append}
use Rattle.floor.specs.Content.{Class}
use Rattle.floor.specs.Layout.{class_row}
use Rattle.floor.specs.Carried.{CarriedClass}
use Rattle.floor.specs.Inner.Decode.{class_at, classes_at}

-- the row of a class has 11 numbers
pub class_long : (c : Class) → length (class_row c) ≡ 11
unfolding class_row
class_long c = let e = length-pad 8 c.books in omega arith

-- the numbers of a class that lies in a table
pub record ClassStored (t : List ℕ) (at : ℕ) (c : Class) : Type 0 where
  pub dimensions : get_or t at 0 ≡ c.dimensions
  pub subclasses : get_or t (at + 1) 0 ≡ c.subclasses
  pub master : get_or t (at + 2) 0 ≡ c.master
  pub books : Stored t (at + 3) (pad 8 c.books)

pub class_stored : {t : List ℕ} {at : ℕ} (c : Class) → Stored t at (class_row c) → ClassStored t at c
unfolding class_row
class_stored {t} {at} c l =
    let l₁ = stored_rest l in
    let l₂ : Stored t (at + 2) (c.master ∷ pad 8 c.books) = stored_at (omega arith) (stored_rest l₁) in
    record {
      dimensions = stored_first l;
      subclasses = stored_first l₁;
      master = stored_first l₂;
      books = stored_at (omega arith) (stored_rest l₂);
    }

pub class_decoded : {t : List ℕ} {at : ℕ} (c : Class) → length c.books ≡ 2 ^ c.subclasses → c.subclasses ≤ 3 → ClassStored t at c → class_at t at ≡ c
unfolding class_at
class_decoded {t} {at} c n h l =
    let few : 2 ^ c.subclasses ≤ 8 = pow_mono h in
    let b : slice (at + 3) (at + 3 + 2 ^ get_or t (at + 1) 0) t ≡ c.books =
    ap (λ (e : ℕ). slice (at + 3) (at + 3 + 2 ^ e) t) l.subclasses ∙ stored_slice 8 (2 ^ c.subclasses) c.books l.books n few in
    λ j. record { dimensions = l.dimensions j; subclasses = l.subclasses j; master = l.master j; books = b j }

-- the class in front of the others
pub classes_stored : {t : List ℕ} {at : ℕ} (m : ℕ) (c : Class) (cs : List Class) → Stored t at (pad (11 * suc m) (rows class_row (c ∷ cs))) → Stored t at (class_row c) × Stored t (at + 11) (pad (11 * m) (rows class_row cs))
unfolding rows
classes_stored {t} {at} m c cs l =
    let e : 11 * suc m ≡ length (class_row c) + 11 * m = mul-suc 11 m ∙ add_comm (11 * m) 11 ∙ ap (λ (x : ℕ). x + 11 * m) (sym (class_long c)) in
    let p : pad (11 * suc m) (class_row c ++ rows class_row cs) ≡ class_row c ++ pad (11 * m) (rows class_row cs) =
    ap (λ (x : ℕ). pad x (class_row c ++ rows class_row cs)) e ∙ pad_append (class_row c) (rows class_row cs) (11 * m) in
    let k : Stored t at (class_row c ++ pad (11 * m) (rows class_row cs)) = rw p at l in
    (stored_left (class_row c) (pad (11 * m) (rows class_row cs)) k, rw (class_long c) at (stored_right (class_row c) (pad (11 * m) (rows class_row cs)) k))

pub classes_decoded : {t : List ℕ} (at m : ℕ) (cs : List Class) → length cs ≤ m → Each CarriedClass cs → Stored t at (pad (11 * m) (rows class_row cs)) → classes_at t at (length cs) ≡ cs
unfolding classes_at Each
classes_decoded at m [] h v l = refl
classes_decoded at zero (c ∷ cs) h v l = absurd (omega arith)
classes_decoded {t} at (suc m) (c ∷ cs) h v l =
    let k = classes_stored m c cs l in
    let here = class_decoded c v.0.count v.0.subclasses (class_stored c k.0) in
    let later = classes_decoded (at + 11) m cs (omega arith) v.1 k.1 in
    λ j. here j ∷ later j
