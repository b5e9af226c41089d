-- `audio_residues::read_submaps` meets its contract, by RequestLaws and WholeLaws. Assumes nothing.
use Rattle.codeword_list.proofs.Laws.{read_back}
use Rattle.audio_residues.proofs.RequestLaws.{submaps_start, submaps_room_lem, submaps_next, submaps_stopped, submaps_done}
use Rattle.audio_residues.proofs.WholeLaws.{submap_in, submap_end}
use Rattle.audio_residues.proofs.read_submaps.Goals as goal

pub loop-submap-init : goal.loop-submap-init
loop-submap-init c = submaps_start _ _ _ _ _ _ _ _ c.requires.0

pub read_submap-requires : goal.read_submap-requires
read_submap-requires c =
    let pre = c.requires in
    let within = submap_in _ _ _ _ _ _ _ _ _ _ pre.1 c.submaps-count.ensures c.loop-submap-test.true in
    (submaps_room_lem _ _ _ _ _ _ _ _ c.loop-submap.invariant, pre.1, within)

pub returns-in_err-next : goal.returns-in_err-next
returns-in_err-next c =
    let pre = c.requires in
    let within = submap_in _ _ _ _ _ _ _ _ _ _ pre.1 c.submaps-count.ensures c.loop-submap-test.true in
    read_back c.from_residual.result _ c.from_residual.ensures.1 (submaps_stopped _ _ _ _ _ _ _ _ c.loop-submap.invariant within c.read_submap.ensures _ c.in_err-next.was)

pub loop-submap-preserved : goal.loop-submap-preserved
loop-submap-preserved c =
    let pre = c.requires in
    let within = submap_in _ _ _ _ _ _ _ _ _ _ pre.1 c.submaps-count.ensures c.loop-submap-test.true in
    submaps_next _ _ _ _ _ _ _ _ c.loop-submap.invariant within c.read_submap.ensures c.in_ok-next.was

pub returns : goal.returns
returns c =
    let pre = c.requires in
    let none_left = submap_end _ _ _ _ _ _ _ _ _ _ pre.1 c.submaps-count.ensures c.loop-submap-test.false in
    submaps_done _ _ _ _ _ _ _ _ c.loop-submap.invariant none_left
