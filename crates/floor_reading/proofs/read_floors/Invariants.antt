-- `floor_reading::read_floors` meets its contract. The loop: what is left to read, written into the buffer as it is, is the whole (numbers/proofs/Loops). Assumes nothing.
use Prim.Native.Nat.{◌≤◌}
use Rattle.floor.specs.Layout.{floor_row, floor_width}
use Rattle.floor.specs.Reading.{floor}
use Rattle.numbers.proofs.Loops.{Filling}
use Rattle.floor_reading.proofs.read_floors.Given as goal

abbrev pub invariant-loop-i : goal.invariant-loop-i
invariant-loop-i l = (l.count ≤ 64) × (l.book_count ≤ 256) × Filling floor_row (floor l.book_count) l.packet l.count floor_width l.initial.floors 0 l.initial.next l.floors l.next l.i
