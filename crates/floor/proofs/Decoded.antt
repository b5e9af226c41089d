-- A row is the row of one floor only: what lies in the table where a floor's row lies is that floor. Assumes nothing.
use Prim.Native.Nat.{ℕ, ◌+◌, ◌≤◌}
use native.Mathlib.Omega.{arith}
use mathlib.Core.List.{List, ◌∷◌, ◌++◌}
use mathlib.Core.Path.{◌≡◌, refl, ap, ◌∙◌}
use lib.ListN.{length, get_or, length-append}
use lib.Seq.{slice}
use Rattle.reading.specs.Lists.{rows}
use Rattle.reading.specs.Pad.{pad}
use Rattle.reading.proofs.Pads.{length-pad}
use Rattle.reading.proofs.Stored.{Stored, stored_at, stored_left, stored_right, stored_first, stored_rest, stored_slice, stored_self}
use Rattle.floor.specs.Layout.{class_row, floor_row, floor_width}
use Rattle.floor.specs.Inner.Decode.{classes_at, floor_at, decode_floor}
use Rattle.floor.proofs.ClassDecoded.{classes_decoded}
use Rattle.floor.specs.Content.{x_list, Floor}
use Rattle.floor.specs.Inner.Valid.{ValidFloor}
use Rattle.floor.proofs.CountLaws.{class_count_most}
use Rattle.floor.proofs.ValidLaws.{values_few}

-- the row of a floor has 277 numbers
pub floor_long : (f : Floor) → length (floor_row f) ≡ floor_width
unfolding floor_row
floor_long f =
    let p = length-pad 31 f.partitions in
    let c = length-pad 176 (rows class_row f.classes) in
    let x = length-pad 65 (x_list f.rangebits f.xs) in
    let a = length-append (pad 176 (rows class_row f.classes)) (pad 65 (x_list f.rangebits f.xs)) in
    let b = length-append (pad 31 f.partitions) (pad 176 (rows class_row f.classes) ++ pad 65 (x_list f.rangebits f.xs)) in
    omega arith

-- the numbers of a floor that lies in a table
pub record FloorStored (t : List ℕ) (at : ℕ) (f : Floor) : Type 0 where
  pub count : get_or t at 0 ≡ length f.partitions
  pub named : get_or t (at + 1) 0 ≡ length f.classes
  pub multiplier : get_or t (at + 2) 0 ≡ f.multiplier
  pub rangebits : get_or t (at + 3) 0 ≡ f.rangebits
  pub values : get_or t (at + 4) 0 ≡ 2 + length f.xs
  pub partitions : Stored t (at + 5) (pad 31 f.partitions)
  pub classes : Stored t (at + 36) (pad 176 (rows class_row f.classes))
  pub list : Stored t (at + 212) (pad 65 (x_list f.rangebits f.xs))

pub floor_stored : {t : List ℕ} {at : ℕ} (f : Floor) → Stored t at (floor_row f) → FloorStored t at f
unfolding floor_row
floor_stored {t} {at} f l =
    let P = pad 31 f.partitions in
    let C = pad 176 (rows class_row f.classes) in
    let X = pad 65 (x_list f.rangebits f.xs) in
    let l₁ = stored_rest l in
    let l₂ : Stored t (at + 2) (f.multiplier ∷ f.rangebits ∷ (2 + length f.xs) ∷ (P ++ (C ++ X))) = stored_at (omega arith) (stored_rest l₁) in
    let l₃ : Stored t (at + 3) (f.rangebits ∷ (2 + length f.xs) ∷ (P ++ (C ++ X))) = stored_at (omega arith) (stored_rest l₂) in
    let l₄ : Stored t (at + 4) ((2 + length f.xs) ∷ (P ++ (C ++ X))) = stored_at (omega arith) (stored_rest l₃) in
    let l₅ : Stored t (at + 5) (P ++ (C ++ X)) = stored_at (omega arith) (stored_rest l₄) in
    let p = length-pad 31 f.partitions in
    let c = length-pad 176 (rows class_row f.classes) in
    let l₆ : Stored t (at + 36) (C ++ X) = stored_at (omega arith) (stored_right P (C ++ X) l₅) in
    record {
      count = stored_first l;
      named = stored_first l₁;
      multiplier = stored_first l₂;
      rangebits = stored_first l₃;
      values = stored_first l₄;
      partitions = stored_left P (C ++ X) l₅;
      classes = stored_left C X l₆;
      list = stored_at (omega arith) (stored_right C X l₆);
    }

-- the X values behind the two implied ones
pub xs_stored : {t : List ℕ} (at b : ℕ) (xs : List ℕ) → Stored t (at + 212) (pad 65 (x_list b xs)) → Stored t (at + 214) (pad 63 xs)
unfolding pad
xs_stored {t} at b xs l = stored_at (omega arith) (stored_rest (stored_rest l))

-- WHERE A FLOOR'S ROW LIES, THAT FLOOR IS READ
pub floor_decoded_at : {t : List ℕ} (at books : ℕ) (f : Floor) → ValidFloor books f → Stored t at (floor_row f) → floor_at t at ≡ f
unfolding floor_at
floor_decoded_at {t} at books f v l =
    let k = floor_stored f l in
    let most = class_count_most f.partitions v.carried.classes_named in
    let few : length f.classes ≤ 16 = rw v.carried.class_count_is most in
    let ps : slice (at + 5) (at + 5 + get_or t at 0) t ≡ f.partitions =
    ap (λ (n : ℕ). slice (at + 5) (at + 5 + n) t) k.count ∙ stored_slice 31 (length f.partitions) f.partitions k.partitions refl v.carried.partitions in
    let cs : classes_at t (at + 36) (get_or t (at + 1) 0) ≡ f.classes =
    ap (classes_at t (at + 36)) k.named ∙ classes_decoded (at + 36) 16 f.classes few v.carried.classes k.classes in
    let end : at + 212 + (2 + length f.xs) ≡ at + 214 + length f.xs = omega arith in
    let xs : slice (at + 214) (at + 212 + get_or t (at + 4) 0) t ≡ f.xs =
    ap (λ (n : ℕ). slice (at + 214) (at + 212 + n) t) k.values ∙ ap (λ (n : ℕ). slice (at + 214) n t) end
    ∙ stored_slice 63 (length f.xs) f.xs (xs_stored at f.rangebits f.xs k.list) refl (values_few v) in
    λ j. record { partitions = ps j; classes = cs j; multiplier = k.multiplier j; rangebits = k.rangebits j; xs = xs j }

-- ONE ROW, ONE FLOOR
pub floor_decoded : (books : ℕ) (f : Floor) → ValidFloor books f → decode_floor (floor_row f) ≡ f
unfolding decode_floor
floor_decoded books f v = floor_decoded_at 0 books f v (stored_self (floor_row f))
