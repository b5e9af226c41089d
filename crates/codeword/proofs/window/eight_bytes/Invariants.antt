-- `codeword::window::eight_bytes` meets its contract, by Windows. Assumes nothing.
use Prim.Native.Nat.{◌*◌}
use mathlib.Core.Path.{◌≡◌}
use Rattle.bits.specs.Field.{value_at}
use Rattle.codeword.proofs.window.eight_bytes.Given as goal

abbrev pub invariant-loop-i : goal.invariant-loop-i
invariant-loop-i l = (l.number ≡ value_at l.packet (8 * l.at) (8 * l.i))
