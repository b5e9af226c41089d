-- `book_lengths::lengths::read_run` meets its contract, by LengthLaws. Assumes nothing.
use Rattle.bits.proofs.Answers.{outcome_back}
use Rattle.book_lengths.proofs.LengthLaws.{run_width, run_cut, run_past, run_whole}
use Rattle.book_lengths.proofs.lengths.read_run.Goals as goal

pub field-requires : goal.field-requires
field-requires c = run_width _ c.ranges.left.fits c.ilog.ensures

pub returns-in_err-number : goal.returns-in_err-number
returns-in_err-number c = outcome_back c.from_residual.result _ c.from_residual.ensures.1 (run_cut _ c.ilog.ensures _ _ c.field.ensures c.in_err-number.was)

pub returns-then-left-number : goal.returns-then-left-number
returns-then-left-number c = run_past _ c.ilog.ensures _ _ c.field.ensures c.in_ok-number.was c.if-left-number.true

pub returns : goal.returns
returns c = run_whole _ c.ilog.ensures _ _ c.field.ensures c.in_ok-number.was c.if-left-number.false
