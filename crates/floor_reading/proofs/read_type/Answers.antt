-- `floor_reading::read_type` meets its contract. Assumes nothing.
use Rattle.bits.proofs.Answers.{outcome_back}
use Rattle.floor_reading.proofs.TypeLaws.{type_zero, type_high, type_cut, type_one}
use Rattle.floor_reading.proofs.read_type.Goals as goal

pub returns-in_err-number : goal.returns-in_err-number
returns-in_err-number c = outcome_back c.from_residual.result _ c.from_residual.ensures.1 (type_cut _ _ c.field.ensures c.in_err-number.was)

pub returns-then-number-eq0 : goal.returns-then-number-eq0
returns-then-number-eq0 c = type_zero _ _ c.field.ensures c.in_ok-number.was c.if-number-eq0.true

pub returns-then-number-gt1 : goal.returns-then-number-gt1
returns-then-number-gt1 c = type_high _ _ c.field.ensures c.in_ok-number.was c.if-number-eq0.false c.if-number-gt1.true

pub returns : goal.returns
returns c = type_one _ _ c.field.ensures c.in_ok-number.was c.if-number-eq0.false c.if-number-gt1.false
