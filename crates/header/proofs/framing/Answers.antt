-- `header::framing` meets its contract: one law for each way out. Assumes nothing.
use borrow.Author.Tests.{eq-eqb, ne_eqb}
use Rattle.bits.specs.Inner.Cursors.{outcome}
use Rattle.bits.proofs.Answers.{value_is, refused_is, outcome_back}
use Rattle.header.specs.Header.{framing}
use Rattle.header.proofs.framing.Goals as goal

pub returns-in_err-flag : goal.returns-in_err-flag
unfolding framing outcome
returns-in_err-flag c = outcome_back c.from_residual.result _ c.from_residual.ensures.1 (rw (refused_is c.bit.ensures c.in_err-flag.was))

pub returns-then-flag-eq0 : goal.returns-then-flag-eq0
unfolding framing outcome
returns-then-flag-eq0 c = rw (value_is c.bit.ensures c.in_ok-flag.was, eq-eqb _ _ c.if-flag-eq0.true)

pub returns : goal.returns
unfolding framing outcome
returns c = rw (value_is c.bit.ensures c.in_ok-flag.was, ne_eqb _ _ c.if-flag-eq0.false)
