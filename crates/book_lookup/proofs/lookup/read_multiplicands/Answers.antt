-- `book_lookup::lookup::read_multiplicands` meets its contract, by LookupLaws and by Filling and Answers of bits. Assumes nothing.
use Rattle.bits.proofs.Answers.{value_is, refused_is, wrote_back}
use Rattle.bits.proofs.Filling.{filling_start, filling_refused, filling_next, filling_done}
use Rattle.book_lookup.proofs.LookupLaws.{multiplicand_fits}
use Rattle.book_lookup.proofs.lookup.read_multiplicands.Goals as goal

pub loop-place-init : goal.loop-place-init
loop-place-init c = filling_start _ _ _ _

pub returns-in_err-multiplicand : goal.returns-in_err-multiplicand
returns-in_err-multiplicand c = wrote_back c.from_residual.result _ c.from_residual.ensures.1 (filling_refused _ _ _ _ c.loop-place.invariant c.loop-place-test.true (refused_is c.field.ensures c.in_err-multiplicand.was) _)

pub overflow_cast-place : goal.overflow_cast-place
overflow_cast-place c = record { fits = multiplicand_fits _ _ _ c.requires c.field.ensures c.in_ok-multiplicand.was }

pub loop-place-preserved : goal.loop-place-preserved
loop-place-preserved c = filling_next _ _ _ _ c.loop-place.invariant c.loop-place-test.true (value_is c.field.ensures c.in_ok-multiplicand.was)

pub returns : goal.returns
returns c = filling_done _ _ _ _ c.loop-place.invariant c.loop-place-test.false
