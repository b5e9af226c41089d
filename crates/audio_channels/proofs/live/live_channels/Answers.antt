-- `audio_channels::live::live_channels` meets its contract, by LiveLaws: what one sweep makes of the channels whose floor is used. Assumes nothing.
use Rattle.audio_channels.proofs.LiveLaws.{used_own, swept_once}
use borrow.Author.Rules.{rules}
use Rattle.audio_channels.proofs.live.live_channels.Goals as goal

pub sweep-requires : goal.sweep-requires
sweep-requires c = search (rules, used_own)

pub returns : goal.returns
returns c = search (rules, swept_once)
