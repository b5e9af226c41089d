-- `book_lengths::lengths::read_each` meets its contract, by LengthLaws and by Filling and Answers of bits. Assumes nothing.
use Rattle.bits.proofs.Answers.{value_is, refused_is, wrote_back}
use Rattle.bits.proofs.Filling.{filling_start, filling_refused, filling_next, filling_done}
use Rattle.book_lengths.proofs.LengthLaws.{entry_fits}
use Rattle.book_lengths.proofs.lengths.read_each.Goals as goal

pub loop-entry-init : goal.loop-entry-init
loop-entry-init c = filling_start _ _ _ _

pub returns-in_err-bits : goal.returns-in_err-bits
returns-in_err-bits c =
    wrote_back c.from_residual.result _ c.from_residual.ensures.1
    (filling_refused _ _ _ _ c.loop-entry.invariant c.loop-entry-test.true (refused_is c.read_length.ensures c.in_err-bits.was) _)

pub overflow_cast-entry : goal.overflow_cast-entry
overflow_cast-entry c = record { fits = entry_fits _ _ _ c.read_length.ensures c.in_ok-bits.was }

pub loop-entry-preserved : goal.loop-entry-preserved
loop-entry-preserved c = filling_next _ _ _ _ c.loop-entry.invariant c.loop-entry-test.true (value_is c.read_length.ensures c.in_ok-bits.was)

pub returns : goal.returns
returns c = filling_done _ _ _ _ c.loop-entry.invariant c.loop-entry-test.false
