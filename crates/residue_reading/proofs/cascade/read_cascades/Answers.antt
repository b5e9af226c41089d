-- `residue_reading::cascade::read_cascades` meets its contract, by CascadeLaws. Assumes nothing.
use Rattle.bits.proofs.Answers.{outcome_back}
use Rattle.residue_reading.proofs.CascadeLaws.{cascades_start, cascades_refused, cascades_next, cascades_done}
use Rattle.residue_reading.proofs.cascade.read_cascades.Goals as goal

pub loop-i-init : goal.loop-i-init
loop-i-init c = cascades_start _ _ _

pub returns-in_err-number : goal.returns-in_err-number
returns-in_err-number c = outcome_back _ _ c.from_residual.ensures.1 (cascades_refused _ _ _ c.loop-i.invariant c.loop-i-test.true c.read_cascade.ensures c.in_err-number.was)

pub loop-i-preserved : goal.loop-i-preserved
loop-i-preserved c = cascades_next _ _ _ c.loop-i.invariant c.loop-i-test.true c.read_cascade.ensures c.in_ok-number.was

pub returns : goal.returns
returns c = cascades_done _ _ _ c.loop-i.invariant c.loop-i-test.false
