-- `whole::later_passes` meets its contract (proofs/WholeLaws). Assumes nothing.
use native.Mathlib.Omega.{arith}
use Rattle.codeword_list.proofs.Laws.{read_back}
use Rattle.residue_decode.proofs.WholeLaws.{passed, passes_stop, passes_next, passes_done}
use Rattle.residue_decode.proofs.whole.later_passes.Goals as goal

pub last_pass-last-requires : goal.last_pass-last-requires
last_pass-last-requires c = search passed

pub loop-pass-init : goal.loop-pass-init
loop-pass-init c = search passed

pub later_pass-requires : goal.later_pass-requires
later_pass-requires c = search passed

pub returns-in_err-next : goal.returns-in_err-next
returns-in_err-next c =
    read_back c.from_residual.result _ c.from_residual.ensures.1 (passes_stop c.loop-pass.invariant c.loop-pass-test.true c.later_pass.ensures c.in_err-next.was)

pub loop-pass-preserved : goal.loop-pass-preserved
loop-pass-preserved c = passes_next c.loop-pass.invariant c.loop-pass-test.true c.later_pass.ensures c.in_ok-next.was

pub returns : goal.returns
returns c = search passed

pub returns-in_ok-next : goal.returns-in_ok-next
returns-in_ok-next c = passes_done (passes_next c.loop-pass.invariant c.loop-pass-test.true c.later_pass.ensures c.in_ok-next.was) (omega arith)
