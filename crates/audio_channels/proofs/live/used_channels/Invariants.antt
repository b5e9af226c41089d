-- `audio_channels::live::used_channels` meets its contract, by LiveLaws. Assumes nothing.
use Rattle.audio_channels.proofs.LiveLaws.{Using}
use Rattle.audio_channels.proofs.live.used_channels.Given as goal

abbrev pub invariant-loop-i : goal.invariant-loop-i
invariant-loop-i l = Using l.channels l.used l.live l.i
