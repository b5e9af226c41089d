-- `audio_channels::channels::live_of` meets its contract, by ChannelLaws. Assumes nothing.
use Rattle.mapping_row.specs.Inner.Readable.{mapping_in}
use Rattle.audio_channels.specs.Inner.Live.{used_bools}
use Rattle.audio_channels.proofs.ChannelLaws.{Counting, live_in}
use Rattle.audio_channels.proofs.channels.live_of.Given as goal

abbrev pub invariant-loop-i : goal.invariant-loop-i
invariant-loop-i l = Counting (live_in (mapping_in l.row.mappings.now l.row.number) (used_bools l.channels l.live) l.submap) l.channels l.total l.i
