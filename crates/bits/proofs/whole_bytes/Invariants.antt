-- `bits::whole_bytes` meets its contract. The loop's invariant: the number is the value of the bytes passed. Assumes nothing.
use Prim.Native.Nat.{◌≤◌, ◌*◌}
use mathlib.Core.Path.{◌≡◌}
use Rattle.bits.specs.Field.{value_at}
use Rattle.bits.proofs.whole_bytes.Given as goal

abbrev pub invariant-loop-i : goal.invariant-loop-i
invariant-loop-i l = (l.i ≤ l.count) × (l.number ≡ value_at l.packet (8 * l.first) (8 * l.i))
