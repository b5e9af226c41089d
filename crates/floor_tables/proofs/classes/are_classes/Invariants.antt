-- `floor_tables::classes::are_classes` meets its contract. Assumes nothing.
use Prim.Native.Nat.{◌+◌, ◌*◌, ◌≤◌}
use lib.ListN.{length}
use lib.Seq.{slice}
use Rattle.reading.proofs.Encodes.{Left}
use Rattle.floor.specs.Layout.{class_row, class_width, classes_room, floors_need}
use Rattle.floor.specs.Inner.Valid.{ValidClass}
use Rattle.floor.proofs.ClassDecoded.{class_long}
use Rattle.floor_tables.proofs.classes.are_classes.Given as goal

abbrev pub invariant-loop-c : goal.invariant-loop-c
invariant-loop-c l = (l.at + classes_room ≤ floors_need) × (class_width * l.count ≤ classes_room) × (l.book_count ≤ 256) × (l.at + classes_room ≤ length l.floors)
    × Left class_row (ValidClass l.book_count) 11 class_long l.count (slice l.at (l.at + classes_room) l.floors) l.c
