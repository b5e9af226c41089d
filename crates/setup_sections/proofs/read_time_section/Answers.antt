-- `setup_sections::read_time_section` meets its contract, by SectionLaws. Assumes nothing.
use Rattle.bits.proofs.Answers.{stepped_back}
use Rattle.setup_sections.proofs.SectionLaws.{count_fits, times_cut, times_read}
use Rattle.setup_sections.proofs.read_time_section.Goals as goal

pub overflow_add-less_one : goal.overflow_add-less_one
overflow_add-less_one c = record { fits = count_fits _ _ c.field.ensures c.in_ok-less_one.was }

pub returns-in_err-less_one : goal.returns-in_err-less_one
returns-in_err-less_one c = stepped_back c.from_residual.result _ c.from_residual.ensures.1 (times_cut _ _ c.field.ensures c.in_err-less_one.was)

pub returns : goal.returns
returns c = times_read _ _ _ c.field.ensures c.in_ok-less_one.was c.read_time_values.ensures
