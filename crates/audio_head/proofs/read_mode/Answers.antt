-- `audio_head::read_mode` meets its contract, by HeadLaws: one law for each way out. Assumes nothing.
use Rattle.bits.proofs.Answers.{outcome_back}
use Rattle.audio_head.proofs.HeadLaws.{mode_laws, mode_cut, mode_unknown, mode_known}
use Rattle.audio_head.proofs.read_mode.Goals as goal

pub field-requires : goal.field-requires
field-requires c = search mode_laws

pub returns-in_err-mode : goal.returns-in_err-mode
returns-in_err-mode c =
    outcome_back c.from_residual.result _ c.from_residual.ensures.1 (mode_cut _ _ _ _ _ c.ilog-width.ensures c.field.ensures c.in_err-mode.was)

pub returns-then-mode-mode_count : goal.returns-then-mode-mode_count
returns-then-mode-mode_count c = mode_unknown _ _ _ _ _ c.ilog-width.ensures c.field.ensures c.in_ok-mode.was c.if-mode-mode_count.true

pub returns : goal.returns
returns c =
    mode_known _ _ _ _ _ c.ilog-width.ensures c.field.ensures c.in_ok-mode.was c.if-mode-mode_count.false c.blockflag_of-blockflag.ensures c.read_flags.ensures
