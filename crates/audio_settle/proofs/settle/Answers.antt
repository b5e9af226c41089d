-- `audio_settle::settle` meets its contract, by SettleLaws. Assumes nothing.
use Rattle.audio_settle.proofs.SettleLaws.{settle_accepted, settle_early, settle_refused}
use Rattle.audio_settle.proofs.settle.Goals as goal

pub returns-in-Ok : goal.returns-in-Ok
returns-in-Ok c = search settle_accepted

pub returns-then-rejected : goal.returns-then-rejected
returns-then-rejected c = search settle_refused

pub returns-else-rejected : goal.returns-else-rejected
returns-else-rejected c = search settle_early
