-- `audio_residues::read_residues` meets its contract, by WholeLaws. Assumes nothing.
use native.Mathlib.Omega.{arith}
use Rattle.audio_residues.proofs.WholeLaws.{live_readable, all_read}
use Rattle.audio_residues.proofs.read_residues.Goals as goal

pub live_channels-live-requires : goal.live_channels-live-requires
live_channels-live-requires c =
    let pre = c.requires in
    (pre.flags-length, pre.channels_few, pre.mapping_is)

pub read_submaps-requires : goal.read_submaps-requires
read_submaps-requires c =
    let pre = c.requires in
    (omega arith, live_readable _ _ _ _ _ _ _ _ _ _ pre c.live_channels-live.ensures)

pub returns : goal.returns
returns c =
    let pre = c.requires in
    all_read _ _ _ _ _ _ _ _ _ _ pre c.live_channels-live.ensures _ _ c.read_submaps.ensures
