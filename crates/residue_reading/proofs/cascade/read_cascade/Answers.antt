-- `residue_reading::cascade::read_cascade` meets its contract, by CascadeLaws. Assumes nothing.
use borrow.Author.Rules.{rules}
use Rattle.bits.proofs.Answers.{outcome_back}
use Rattle.residue_reading.proofs.CascadeLaws.{low_alone, low_cut, flag_cut, high_cut, high_and_low, high_fits, cascade_fits}
use Rattle.residue_reading.proofs.cascade.read_cascade.Goals as goal

pub returns-in_err-low : goal.returns-in_err-low
returns-in_err-low c = outcome_back _ _ c.from_residual.ensures.1 (low_cut _ _ c.field.ensures c.in_err-low.was)

pub returns-in_err-flag : goal.returns-in_err-flag
returns-in_err-flag c = outcome_back _ _ c.from_residual-in_err-flag.ensures.1 (flag_cut _ _ c.field.ensures c.in_ok-low.was c.bit.ensures c.in_err-flag.was)

pub returns-then-flag-eq0 : goal.returns-then-flag-eq0
returns-then-flag-eq0 c = low_alone _ _ c.field.ensures c.in_ok-low.was c.bit.ensures c.in_ok-flag.was c.if-flag-eq0.true

pub returns-in_err-high : goal.returns-in_err-high
returns-in_err-high c = outcome_back _ _ c.from_residual-in_err-high.ensures.1 (high_cut _ _ c.field.ensures c.in_ok-low.was c.bit.ensures c.in_ok-flag.was c.if-flag-eq0.false c.field-2.ensures c.in_err-high.was)

pub overflow_mul-result : goal.overflow_mul-result
overflow_mul-result c = let fits = high_fits _ _ c.field-2.ensures c.in_ok-high.was in search rules

pub overflow_add-result : goal.overflow_add-result
overflow_add-result c = let fits = cascade_fits _ _ c.field-2.ensures c.in_ok-high.was _ c.field.ensures c.in_ok-low.was in search rules

pub returns : goal.returns
returns c = high_and_low _ _ c.field.ensures c.in_ok-low.was c.bit.ensures c.in_ok-flag.was c.if-flag-eq0.false c.field-2.ensures c.in_ok-high.was
