-- `take_records` meets its contract, by TakingLaws. The invariant: what was taken so far is one taking, and another record may be taken. Assumes nothing.
use Prim.Native.Nat.{◌-◌}
use lib.ListN.{length}
use Rattle.record_taking.proofs.Going.{Going}
use Rattle.record_taking.proofs.take_records.Given as goal

abbrev pub invariant-loop-at : goal.invariant-loop-at
invariant-loop-at l = Going l.initial.at l.initial.tables l.input l.initial.lines l.at l.tables l.curves l.words l.lines

abbrev pub decreases-loop-at : goal.decreases-loop-at
decreases-loop-at l = length l.input - l.at.from
