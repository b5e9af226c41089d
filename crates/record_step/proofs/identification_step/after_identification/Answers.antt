-- `record_step::identification_step::after_identification` meets its contract, by IdentificationLaws: one law for each way out. Assumes nothing.
use mathlib.Core.Path.{refl}
use Rattle.record_step.proofs.IdentificationLaws.{identification_accepted, identification_refused}
use Rattle.record_step.proofs.identification_step.after_identification.Goals as goal

pub returns-in-Ok : goal.returns-in-Ok
returns-in-Ok c =
    identification_accepted c.args.kept c.args.body.now c.standard.ensures.0 (c.read.ensures.result_value, c.read.ensures.accepted_sound) c.in-Ok.is refl

pub returns-in-Err : goal.returns-in-Err
returns-in-Err c =
    identification_refused c.args.kept c.args.body.now c.standard.ensures.0 (c.read.ensures.result_value, c.read.ensures.accepted_sound) c.in-Err.is c.number.ensures
    c.refused.ensures
