-- `codeword::unused::past_unused` meets its contract: the entries passed so far are unused. Assumes nothing.
use Prim.Native.Nat.{◌≤◌, ◌-◌}
use lib.ListN.{length}
use Rattle.codeword.specs.Inner.Window.{Zeros}
use Rattle.codeword.proofs.unused.past_unused.Given as goal

abbrev pub invariant-loop-at : goal.invariant-loop-at
invariant-loop-at l = (l.from ≤ l.at) × (l.at ≤ length l.lengths) × Zeros l.lengths l.from l.at

abbrev pub decreases-loop-at : goal.decreases-loop-at
decreases-loop-at l = length l.lengths - l.at
