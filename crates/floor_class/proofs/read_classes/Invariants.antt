-- `floor_class::read_classes` meets its contract. The loop: what is left to read, written into the buffer as it is, is the whole (numbers/proofs/Loops). Assumes nothing.
use Prim.Native.Nat.{◌≤◌}
use Rattle.floor.specs.Layout.{class_row}
use Rattle.floor.specs.ClassReading.{class}
use Rattle.numbers.proofs.Loops.{Filling}
use Rattle.floor_class.proofs.read_classes.Given as goal

abbrev pub invariant-loop-i : goal.invariant-loop-i
invariant-loop-i l = (l.book_count ≤ 256) × (l.count ≤ 16) × Filling class_row (class l.book_count) l.packet l.count 11 l.initial.classes 0 l.initial.next l.classes l.next l.i
