-- `codeword::unused::four_lengths` meets its contract, by Windows. Assumes nothing.
use Prim.Native.Nat.{◌+◌, ◌*◌}
use mathlib.Core.Path.{◌≡◌}
use Rattle.bits.specs.Field.{value_at}
use Rattle.codeword.specs.Inner.Window.{Zeros}
use Rattle.codeword.proofs.unused.four_lengths.Given as goal

abbrev pub invariant-loop-i : goal.invariant-loop-i
invariant-loop-i l = (l.number ≡ value_at l.lengths (8 * l.at) (8 * l.i)) × (l.number ≡ 0 → Zeros l.lengths l.at (l.at + l.i))
