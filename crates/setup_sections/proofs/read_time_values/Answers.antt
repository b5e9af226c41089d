-- `setup_sections::read_time_values` meets its contract, by SectionLaws. Assumes nothing.
use native.Mathlib.Omega.{arith}
use Rattle.bits.proofs.Answers.{stepped_back}
use Rattle.setup_sections.proofs.SectionLaws.{times_start, times_refused, times_next, times_done}
use Rattle.setup_sections.proofs.read_time_values.Goals as goal

pub loop-i-init : goal.loop-i-init
loop-i-init c = times_start _ _ _

pub returns-in_err-next : goal.returns-in_err-next
returns-in_err-next c = stepped_back c.from_residual.result _ c.from_residual.ensures.1 (times_refused _ _ _ _ _ c.loop-i.invariant (omega arith) c.read_time_value.ensures c.in_err-next.was)

pub loop-i-preserved : goal.loop-i-preserved
loop-i-preserved c = times_next _ _ _ _ _ c.loop-i.invariant (omega arith) c.read_time_value.ensures c.in_ok-next.was

pub returns : goal.returns
returns c = times_done _ _ _ _ _ c.loop-i.invariant (omega arith)
