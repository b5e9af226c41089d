-- `floor_class::read_subclass_books` meets its contract. The loop: what is left to read, written into the buffer as it is, is the whole (numbers/proofs/Loops). Assumes nothing.
use Prim.Native.Nat.{◌≤◌}
use Rattle.numbers.specs.Inner.Cell.{cell}
use Rattle.floor.specs.ClassReading.{subclass_book}
use Rattle.numbers.proofs.Loops.{Filling}
use Rattle.floor_class.proofs.read_subclass_books.Given as goal

abbrev pub invariant-loop-i : goal.invariant-loop-i
invariant-loop-i l = (l.count ≤ 8) × Filling cell (subclass_book l.book_count) l.packet l.count 1 l.initial.list 0 l.initial.next l.list l.next l.i
