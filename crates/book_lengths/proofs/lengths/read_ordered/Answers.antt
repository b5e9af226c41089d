-- `book_lengths::lengths::read_ordered` meets its contract, by LengthLaws. Assumes nothing.
use Rattle.bits.proofs.Answers.{wrote_back}
use Rattle.book_lengths.proofs.LengthLaws.{ordered_cut, first_below, ordered_rest}
use Rattle.book_lengths.proofs.lengths.read_ordered.Goals as goal

pub returns-in_err-first : goal.returns-in_err-first
returns-in_err-first c = wrote_back c.from_residual.result _ c.from_residual.ensures.1 (ordered_cut _ _ _ _ c.field.ensures c.in_err-first.was _)

pub read_runs-requires : goal.read_runs-requires
read_runs-requires c = (first_below 0 0 _ _ c.field.ensures c.in_ok-first.was, c.requires)

pub returns : goal.returns
returns c = ordered_rest _ _ _ _ c.field.ensures c.in_ok-first.was c.read_runs.ensures
