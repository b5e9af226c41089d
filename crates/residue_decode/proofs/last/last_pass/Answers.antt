-- `last::last_pass` meets its contract (proofs/LastLaws). Assumes nothing.
use Rattle.residue_decode.proofs.LastLaws.{asked, search_none, search_some}
use Rattle.residue_decode.proofs.last.last_pass.Goals.{then-plan_place-ne0, else-plan_place-ne0}
use Rattle.residue_decode.proofs.last.last_pass.Goals as goal

pub loop-place-init : goal.loop-place-init
loop-place-init c = search asked

pub loop-place-preserved : goal.loop-place-preserved
loop-place-preserved c =
    let g = c.loop-place.invariant in
    elim c.if-plan_place-ne0.branch [
      | then-plan_place-ne0 w ↦ rw (w.last-is, w.max-last.ensures) (search_some g c.plan_place.ensures)
      | else-plan_place-ne0 w ↦ rw w.last-is (search_none g c.plan_place.ensures w.if-plan_place-ne0.false)
    ]

pub returns : goal.returns
returns c = search asked
