-- `residue_reading::plan::read_row` meets its contract, by PlanLaws. Assumes nothing.
use borrow.Author.Rules.{rules}
use Rattle.bits.proofs.Answers.{outcome_back}
use Rattle.residue_reading.proofs.PlanLaws.{place_narrow, row_start, row_refused, row_next, row_done}
use Rattle.residue_reading.proofs.plan.read_row.Goals as goal

pub loop-j-init : goal.loop-j-init
loop-j-init c = row_start _ _ _ _

pub returns-in_err-book : goal.returns-in_err-book
returns-in_err-book c = outcome_back _ _ c.from_residual.ensures.1 (row_refused _ _ _ _ c.loop-j.invariant c.loop-j-test.true c.read_place.ensures c.in_err-book.was)

pub overflow_cast-books : goal.overflow_cast-books
overflow_cast-books c = let small = place_narrow _ _ _ _ c.read_place.ensures c.in_ok-book.was in search rules

pub loop-j-preserved : goal.loop-j-preserved
loop-j-preserved c = row_next _ _ _ _ c.loop-j.invariant c.loop-j-test.true c.read_place.ensures c.in_ok-book.was

pub returns : goal.returns
returns c = row_done _ _ _ _ c.loop-j.invariant c.loop-j-test.false
