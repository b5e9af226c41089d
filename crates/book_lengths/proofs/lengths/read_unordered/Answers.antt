-- `book_lengths::lengths::read_unordered` meets its contract, by LengthLaws. Assumes nothing.
use Rattle.bits.proofs.Answers.{wrote_back}
use Rattle.book_lengths.proofs.LengthLaws.{unordered_cut, unordered_rest}
use Rattle.book_lengths.proofs.lengths.read_unordered.Goals as goal

pub returns-in_err-sparse : goal.returns-in_err-sparse
returns-in_err-sparse c = wrote_back c.from_residual.result _ c.from_residual.ensures.1 (unordered_cut _ _ _ c.field.ensures c.in_err-sparse.was _)

pub returns : goal.returns
returns c = unordered_rest _ _ _ c.field.ensures c.in_ok-sparse.was c.read_each.ensures
