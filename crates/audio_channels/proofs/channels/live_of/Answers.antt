-- `audio_channels::channels::live_of` meets its contract, by ChannelLaws. Assumes nothing.
use Rattle.audio_channels.proofs.ChannelLaws.{counting}
use Rattle.audio_channels.proofs.channels.live_of.Goals as goal

pub loop-i-init : goal.loop-i-init
loop-i-init c = search counting

pub overflow_add-total : goal.overflow_add-total
overflow_add-total c = search counting

pub loop-i-preserved : goal.loop-i-preserved
loop-i-preserved c = search counting

pub returns : goal.returns
returns c = search counting
