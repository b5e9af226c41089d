-- `setup_call::checked::read_checked` meets its contract, by CheckedLaws. Assumes nothing.
use mathlib.Core.Path.{ap, ◌∙◌}
use Rattle.setup.specs.Layout.{has_room}
use Rattle.setup.proofs.ReadIntoLaws.{read_into_back}
use Rattle.setup_call.proofs.CheckedLaws.{content_ready, checked_refused, checked_read}
use Rattle.setup_call.proofs.checked.read_checked.Goals as goal

pub read_content-requires : goal.read_content-requires
read_content-requires c = content_ready _ _ _ _ (c.have_room-room.ensures ∙ ap (has_room c.args.limits) c.shared.ensures) c.begin.ensures c.requires c.in_ok-from.was

pub returns-in_err-from-clause-read_into : goal.returns-in_err-from-clause-read_into
returns-in_err-from-clause-read_into c =
    read_into_back c.from_residual.result _ c.from_residual.ensures.1
    (checked_refused _ _ _ _ (c.have_room-room.ensures ∙ ap (has_room c.args.limits) c.shared.ensures) c.begin.ensures c.in_err-from.was)

pub returns-clause-read_into : goal.returns-clause-read_into
returns-clause-read_into c =
    checked_read _ _ _ _ (c.have_room-room.ensures ∙ ap (has_room c.args.limits) c.shared.ensures) c.begin.ensures c.in_ok-from.was c.read_content.ensures
