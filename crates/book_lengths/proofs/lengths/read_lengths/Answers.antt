-- `book_lengths::lengths::read_lengths` meets its contract, by LengthLaws. Assumes nothing.
use Rattle.bits.proofs.Answers.{wrote_back}
use Rattle.book_lengths.proofs.LengthLaws.{lengths_cut, lengths-unordered, lengths-ordered}
use Rattle.book_lengths.proofs.lengths.read_lengths.Goals as goal

pub returns-in_err-ordered : goal.returns-in_err-ordered
returns-in_err-ordered c = wrote_back c.from_residual.result _ c.from_residual.ensures.1 (lengths_cut _ _ _ _ c.field.ensures c.in_err-ordered.was _)

pub returns-then-ordered-eq0 : goal.returns-then-ordered-eq0
returns-then-ordered-eq0 c = lengths-unordered _ _ _ _ c.field.ensures c.in_ok-ordered.was c.if-ordered-eq0.true c.read_unordered.ensures

pub returns : goal.returns
returns c = lengths-ordered _ _ _ _ c.field.ensures c.in_ok-ordered.was c.if-ordered-eq0.false c.read_ordered.ensures
