-- `mode_reading::read_modes` meets its contract, by ReadLaws. Assumes nothing.
use Rattle.bits.proofs.Answers.{wrote_back}
use Rattle.mode_reading.proofs.ReadLaws.{modes_refused, modes_laws}
use Rattle.mode_reading.proofs.read_modes.Goals as goal

pub loop-i-init : goal.loop-i-init
loop-i-init c = search modes_laws

pub returns-in_err-k : goal.returns-in_err-k
returns-in_err-k c = let l = c.loop-i in wrote_back _ _ c.from_residual.ensures.1 (modes_refused _ _ _ _ l.i l.k l.modes l.invariant.2 c.loop-i-test.true c.read_mode.ensures c.in_err-k.was _)

pub loop-i-preserved : goal.loop-i-preserved
loop-i-preserved c = search modes_laws

pub returns : goal.returns
returns c = search modes_laws
