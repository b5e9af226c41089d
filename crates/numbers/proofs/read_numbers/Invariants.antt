-- `numbers::read_numbers` meets its contract. The loop: what is left to read, written into the buffer as it is, is the whole (proofs/Loops). Assumes nothing.
use Prim.Native.Nat.{◌≤◌}
use Rattle.bits.specs.Field.{field}
use Rattle.numbers.specs.Inner.Cell.{cell}
use Rattle.numbers.proofs.Loops.{Filling}
use Rattle.numbers.proofs.read_numbers.Given as goal

abbrev pub invariant-loop-i : goal.invariant-loop-i
invariant-loop-i l = (l.width ≤ 16) × (l.number_count ≤ 63) × (l.at ≤ 2) × Filling cell (field l.width) l.packet l.number_count 1 l.initial.numbers l.at l.initial.next l.numbers l.next l.i
