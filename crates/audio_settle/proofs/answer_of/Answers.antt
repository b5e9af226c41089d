-- `audio_settle::answer_of` meets its contract, by SettleLaws. Assumes nothing.
use Rattle.audio_settle.proofs.SettleLaws.{answer_made}
use Rattle.audio_settle.proofs.answer_of.Goals as goal

pub returns : goal.returns
returns c = search answer_made
