-- `audio_channels::channels::channels_of` meets its contract, by ChannelLaws. Assumes nothing.
use mathlib.Core.Path.{refl, ap}
use Rattle.reading.specs.Least.{one}
use Rattle.audio_channels.proofs.ChannelLaws.{channels_next, counting}
use Rattle.audio_channels.proofs.channels.channels_of.Goals as goal

pub loop-i-init : goal.loop-i-init
loop-i-init c = search counting

pub overflow_add-total : goal.overflow_add-total
overflow_add-total c = search counting

pub loop-i-preserved : goal.loop-i-preserved
loop-i-preserved c =
    channels_next _ _ _ _ c.requires.0 c.requires.1 c.loop-i.invariant refl c.loop-i-test.true (ap one c.of_submap.ensures)

pub returns : goal.returns
returns c = search counting
