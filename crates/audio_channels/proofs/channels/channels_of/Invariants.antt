-- `audio_channels::channels::channels_of` meets its contract, by ChannelLaws. Assumes nothing.
use Rattle.mapping_row.specs.Inner.Readable.{mapping_in}
use Rattle.audio_channels.proofs.ChannelLaws.{Counting, in_submap}
use Rattle.audio_channels.proofs.channels.channels_of.Given as goal

abbrev pub invariant-loop-i : goal.invariant-loop-i
invariant-loop-i l = Counting (in_submap (mapping_in l.row.mappings.now l.row.number) l.submap) l.channels l.total l.i
