-- Which number of a floor each place of its row holds: with `floors_stored` of the crate floors, what the functions of src/lib.rt give.
-- Assumes nothing.
use Prim.Native.Nat.{ℕ, ◌+◌, ◌*◌, ◌≤◌, ◌<◌}
use native.Mathlib.Omega.{arith}
use mathlib.Core.List.{List}
use mathlib.Core.Path.{◌≡◌}
use lib.ListN.{length, get_or}
use lib.Seq.{slice}
use Rattle.reading.specs.Lists.{rows}
use Rattle.reading.specs.Pad.{pad}
use Rattle.floor.specs.Content.{Class, no_class, x_list, Floor}
use Rattle.floor.specs.Layout.{class_row}
use Rattle.reading.proofs.Stored.{Stored, stored_slice, stored_number, rows_stored_in}
use Rattle.floor.proofs.ClassDecoded.{ClassStored, class_long, class_stored}
use Rattle.floor.proofs.Decoded.{FloorStored}

-- row c of the rows of classes
pub class_row_lem : {t : List ℕ} (at m : ℕ) (cs : List Class) (c : ℕ) → c < length cs → length cs ≤ m → Stored t at (pad (11 * m) (rows class_row cs)) → Stored t (at + 11 * c) (class_row (get_or cs c no_class))
class_row_lem at m cs c h k l = rows_stored_in class_row 11 class_long no_class (11 * m) cs l (omega arith) c h

-- what each place of a floor that lies at `at` holds
module _ {t : List ℕ} {at : ℕ} {f : Floor} (l : FloorStored t at f) where
  pub partition_is : (i : ℕ) → i < 31 → get_or t (at + 5 + i) 0 ≡ get_or f.partitions i 0
  partition_is = stored_number 31 f.partitions l.partitions

  pub x_is : (i : ℕ) → i < 65 → get_or t (at + 212 + i) 0 ≡ get_or (x_list f.rangebits f.xs) i 0
  x_is = stored_number 65 (x_list f.rangebits f.xs) l.list

  pub x_list_is : 2 + length f.xs ≤ 65 → slice (at + 212) (at + 212 + (2 + length f.xs)) t ≡ x_list f.rangebits f.xs
  x_list_is h = stored_slice 65 (2 + length f.xs) (x_list f.rangebits f.xs) l.list (omega arith) h

  pub class_is : (c : ℕ) → c < length f.classes → length f.classes ≤ 16 → ClassStored t (at + 36 + 11 * c) (get_or f.classes c no_class)
  class_is c h k = class_stored (get_or f.classes c no_class) (class_row_lem (at + 36) 16 f.classes c h k l.classes)

pub subclass_book_is : {t : List ℕ} {at : ℕ} {c : Class} → ClassStored t at c → (j : ℕ) → j < 8 → get_or t (at + 3 + j) 0 ≡ get_or c.books j 0
subclass_book_is {t} {at} {c} l = stored_number 8 c.books l.books
