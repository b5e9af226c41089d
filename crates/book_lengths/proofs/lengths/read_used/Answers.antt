-- `book_lengths::lengths::read_used` meets its contract, by LengthLaws. Assumes nothing.
use Rattle.bits.proofs.Answers.{outcome_back}
use Rattle.book_lengths.proofs.LengthLaws.{used_cut, used_fits, used_whole}
use Rattle.book_lengths.proofs.lengths.read_used.Goals as goal

pub returns-in_err-bits : goal.returns-in_err-bits
returns-in_err-bits c = outcome_back c.from_residual.result _ c.from_residual.ensures.1 (used_cut _ _ c.field.ensures c.in_err-bits.was)

pub overflow_add-result : goal.overflow_add-result
overflow_add-result c = record { fits = used_fits _ _ c.field.ensures c.in_ok-bits.was }

pub returns : goal.returns
returns c = used_whole _ _ c.field.ensures c.in_ok-bits.was
