-- `crate::checked::begin` meets its contract, by CheckedLaws. Assumes nothing.
use Rattle.setup_call.proofs.CheckedLaws.{identity_unsound, no_room, header_judged}
use Rattle.setup_call.proofs.checked.begin.Goals as goal

pub returns-then-not-is_sound : goal.returns-then-not-is_sound
returns-then-not-is_sound c = search identity_unsound

pub returns-then-not-room : goal.returns-then-not-room
returns-then-not-room c = search no_room

pub returns : goal.returns
returns c = search header_judged
