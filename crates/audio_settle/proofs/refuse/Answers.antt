-- `audio_settle::refuse` meets its contract, by SettleLaws. Assumes nothing.
use Rattle.audio_settle.proofs.SettleLaws.{refuse_made}
use Rattle.audio_settle.proofs.refuse.Goals as goal

pub returns : goal.returns
returns c = search refuse_made
