-- `record_step::setup_step::after_setup` meets its contract, by SetupLaws: without an identity, and by what the setup call left. Assumes nothing.
use mathlib.Core.Path.{refl, ap, ◌∙◌}
use lib.ListN.{get_or}
use Rattle.setup.specs.Layout.{Tables}
use Rattle.record_step.proofs.SetupLaws.{no_identity_is, limits_small, number_other, number_zero, setup_settled}
use Rattle.record_step.proofs.setup_step.after_setup.Goals as goal

pub returns-in_default-clause-step : goal.returns-in_default-clause-step
returns-in_default-clause-step c = no_identity_is _ _ _ c.requires c.in_default.is c.number.ensures c.refused.ensures

pub read_setup-number-requires : goal.read_setup-number-requires
read_setup-number-requires c = limits_small c.standard.ensures

pub returns-then-number-ne0-clause-step : goal.returns-then-number-ne0-clause-step
returns-then-number-ne0-clause-step c =
    setup_settled c.args.kept _ _ c.requires c.in-Some.is c.standard.ensures (c.read_setup-number.ensures.modes_value, c.read_setup-number.ensures.accepted_sound) refl refl
    (number_other c.args.kept _ _ _ c.if-number-ne0.true refl)

pub returns-clause-step : goal.returns-clause-step
returns-clause-step c =
    setup_settled c.args.kept _ _ c.requires c.in-Some.is c.standard.ensures (c.read_setup-number.ensures.modes_value, c.read_setup-number.ensures.accepted_sound)
    (c.get.ensures ∙ ap (λ (t : Tables). get_or t.counts 0 0) c.shared.ensures) (c.get-2.ensures ∙ ap (λ (t : Tables). get_or t.counts 4 0) c.shared.ensures)
    (number_zero c.args.kept _ _ _ c.if-number-ne0.false refl)
