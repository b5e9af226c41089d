-- `book_lengths::lengths::read_length` meets its contract, by LengthLaws. Assumes nothing.
use Rattle.bits.proofs.Answers.{outcome_back}
use Rattle.book_lengths.proofs.LengthLaws.{entry_dense, flag_cut, flag_unused, flag_used}
use Rattle.book_lengths.proofs.lengths.read_length.Goals as goal

pub returns-then-sparse-eq0 : goal.returns-then-sparse-eq0
returns-then-sparse-eq0 c = entry_dense _ _ _ _ c.if-sparse-eq0.true c.read_used.ensures

pub returns-in_err-flag : goal.returns-in_err-flag
returns-in_err-flag c = outcome_back c.from_residual.result _ c.from_residual.ensures.1 (flag_cut _ _ _ c.if-sparse-eq0.false c.field.ensures c.in_err-flag.was)

pub returns-then-flag-eq0 : goal.returns-then-flag-eq0
returns-then-flag-eq0 c = flag_unused _ _ _ c.if-sparse-eq0.false c.field.ensures c.in_ok-flag.was c.if-flag-eq0.true

pub returns : goal.returns
returns c = flag_used _ _ _ c.if-sparse-eq0.false c.field.ensures c.in_ok-flag.was c.if-flag-eq0.false _ c.read_used-2.ensures
