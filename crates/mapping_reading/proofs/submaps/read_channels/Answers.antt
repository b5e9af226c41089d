-- `mapping_reading::submaps::read_channels` meets its contract, by Fillings. Assumes nothing.
use native.Mathlib.Omega.{arith}
use Rattle.bits.proofs.Answers.{wrote_back}
use Rattle.mapping_reading.proofs.Fillings.{fill_start, fill_refused, fill_next, fill_done}
use Rattle.mapping_reading.proofs.submaps.read_channels.Goals as goal

pub loop-i-init : goal.loop-i-init
loop-i-init c = fill_start _ _ _ _ _ _ _

pub returns-in_err-k : goal.returns-in_err-k
returns-in_err-k c = wrote_back c.from_residual.result _ c.from_residual.ensures.1 (fill_refused _ _ _ _ _ _ _ _ _ _ _ c.loop-i.invariant (omega arith) c.read_multiplex.ensures c.in_err-k.was _)

pub loop-i-preserved : goal.loop-i-preserved
loop-i-preserved c = fill_next _ _ _ _ _ _ _ _ _ _ _ c.loop-i.invariant (omega arith) c.read_multiplex.ensures c.in_ok-k.was (omega arith)

pub returns : goal.returns
returns c = fill_done _ _ _ _ _ _ _ _ _ _ _ c.loop-i.invariant (omega arith)
