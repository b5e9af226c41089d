-- `residue_reading::plan::read_row` meets its contract, by PlanLaws. Assumes nothing.
use Rattle.residue_reading.proofs.PlanLaws.{RowFilling}
use Rattle.residue_reading.proofs.plan.read_row.Given as goal

abbrev pub invariant-loop-j : goal.invariant-loop-j
invariant-loop-j l = RowFilling l.packet l.book_count l.cascade l.initial.at l.books l.at l.j
