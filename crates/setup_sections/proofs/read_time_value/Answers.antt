-- `setup_sections::read_time_value` meets its contract, by SectionLaws. Assumes nothing.
use Rattle.bits.proofs.Answers.{stepped_back}
use Rattle.setup_sections.proofs.SectionLaws.{time_cut, time_wrong, time_read}
use Rattle.setup_sections.proofs.read_time_value.Goals as goal

pub returns-in_err-value : goal.returns-in_err-value
returns-in_err-value c = stepped_back c.from_residual.result _ c.from_residual.ensures.1 (time_cut _ _ c.field.ensures c.in_err-value.was)

pub returns-then-value-ne0 : goal.returns-then-value-ne0
returns-then-value-ne0 c = time_wrong _ _ c.field.ensures c.in_ok-value.was c.if-value-ne0.true

pub returns : goal.returns
returns c = time_read _ _ c.field.ensures c.in_ok-value.was c.if-value-ne0.false
