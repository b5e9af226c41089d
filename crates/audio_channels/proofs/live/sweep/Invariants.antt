-- `audio_channels::live::sweep` meets its contract, by LiveLaws. Assumes nothing.
use Rattle.mapping_row.specs.Inner.Readable.{mapping_in}
use Rattle.audio_channels.specs.Inner.Live.{used_bools}
use Rattle.audio_channels.proofs.LiveLaws.{Steps}
use Rattle.audio_channels.proofs.live.sweep.Given as goal

abbrev pub invariant-loop-i : goal.invariant-loop-i
invariant-loop-i l = Steps (mapping_in l.row.mappings.now l.row.number) (used_bools l.channels l.initial.live) l.live l.i
