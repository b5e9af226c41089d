-- `audio_channels::live::used_channels` meets its contract, by LiveLaws. Assumes nothing.
use Rattle.audio_channels.proofs.LiveLaws.{used_laws}
use Rattle.audio_channels.proofs.live.used_channels.Goals as goal

pub loop-i-init : goal.loop-i-init
loop-i-init c = search used_laws

pub loop-i-preserved : goal.loop-i-preserved
loop-i-preserved c = search used_laws

pub returns : goal.returns
returns c = search used_laws
