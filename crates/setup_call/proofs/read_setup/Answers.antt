-- `setup_call::read_setup` meets its contract, by CallLaws. Assumes nothing.
use mathlib.Core.Path.{◌∙◌}
use Rattle.setup.proofs.ValidLaws.{accepts}
use Rattle.setup_call.proofs.CallLaws.{settled_read, settled_refused}
use Rattle.setup_call.proofs.read_setup.Goals as goal

pub returns-in-Ok-clause-modes_value : goal.returns-in-Ok-clause-modes_value
returns-in-Ok-clause-modes_value c = c.settle.ensures.left ∙ settled_read _ _ _ _ c.read_checked.ensures.read_into c.in-Ok.is

pub returns-in-Ok-clause-accepted_sound : goal.returns-in-Ok-clause-accepted_sound
returns-in-Ok-clause-accepted_sound c = accepts _ _ _ _ c.requires

pub returns-in-Err-clause-modes_value : goal.returns-in-Err-clause-modes_value
returns-in-Err-clause-modes_value c =
    c.settle-in-Err.ensures.left ∙ settled_refused _ _ _ _ c.read_checked.ensures.read_into c.in-Err.is c.number.ensures c.read_checked.ensures.lent.long

pub returns-in-Err-clause-accepted_sound : goal.returns-in-Err-clause-accepted_sound
returns-in-Err-clause-accepted_sound c = accepts _ _ _ _ c.requires
