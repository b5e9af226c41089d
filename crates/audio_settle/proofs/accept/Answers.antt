-- `audio_settle::accept` meets its contract, by SettleLaws. Assumes nothing.
use Rattle.audio_settle.proofs.SettleLaws.{accept_made}
use Rattle.audio_settle.proofs.accept.Goals as goal

pub returns : goal.returns
returns c = search accept_made
