-- `residue_reading::plan::write_plan` meets its contract, by WritingLaws. Assumes nothing.
use Rattle.residue_reading.proofs.WritingLaws.{WritingRows}
use Rattle.residue_reading.proofs.plan.write_plan.Given as goal

abbrev pub invariant-loop-i : goal.invariant-loop-i
invariant-loop-i l = WritingRows l.initial.plans l.at l.plan l.plans l.i
