-- `residue_reading::read_plan` meets its contract, by ReadLaws. Assumes nothing.
use Rattle.residue_reading.proofs.ReadLaws.{Planning}
use Rattle.residue_reading.proofs.read_plan.Given as goal

abbrev pub invariant-loop-i : goal.invariant-loop-i
invariant-loop-i l =
    Planning l.packet l.book_count l.head.classifications l.cascades l.initial.at l.plan l.at l.i
