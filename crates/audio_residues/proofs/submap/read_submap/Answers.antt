-- `audio_residues::submap::read_submap` meets its contract, by SubmapLaws. Assumes nothing.
use Rattle.audio_residues.proofs.SubmapLaws.{size_low, residue_readable, residue_read, digits_low, top_fits, pass_readable}
use Rattle.audio_residues.proofs.submap.read_submap.Goals as goal

pub submap_extent-extent-requires : goal.submap_extent-extent-requires
submap_extent-extent-requires c =
    let pre = c.requires in
    let size = size_low _ _ _ _ _ _ _ _ _ _ pre.1 _ pre.2 c.submap_residue-residue.ensures _ c.head-head.ensures in
    (pre.1.flags-length, pre.1.channels_few, pre.1.mapping_is, pre.1.half_few, size)

pub overflow_sub-digits : goal.overflow_sub-digits
overflow_sub-digits c =
    digits_low (residue_readable _ _ _ _ _ _ _ _ _ _ c.requires.1 _ c.requires.2 c.submap_residue-residue.ensures _ c.head-head.ensures) c.dimensions-digits.ensures

pub pow-top-requires : goal.pow-top-requires
pow-top-requires c =
    top_fits (residue_readable _ _ _ _ _ _ _ _ _ _ c.requires.1 _ c.requires.2 c.submap_residue-residue.ensures _ c.head-head.ensures) c.dimensions-digits.ensures

pub read_residue-requires : goal.read_residue-requires
read_residue-requires c =
    let ready = residue_readable _ _ _ _ _ _ _ _ _ _ c.requires.1 _ c.requires.2 c.submap_residue-residue.ensures _ c.head-head.ensures in
    (c.requires.0, pass_readable ready c.dimensions-digits.ensures c.pow-top.ensures)

pub returns : goal.returns
returns c =
    residue_read _ _ _ _ _ _ _ _ _ _ c.requires.1 _ c.requires.2 c.submap_residue-residue.ensures _ c.head-head.ensures _ _ c.submap_extent-extent.ensures
    c.read_residue.ensures
