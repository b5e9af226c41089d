-- `audio_settle::refuse_early` meets its contract, by SettleLaws. Assumes nothing.
use Rattle.audio_settle.proofs.SettleLaws.{early_made}
use Rattle.audio_settle.proofs.refuse_early.Goals as goal

pub returns : goal.returns
returns c = search early_made
