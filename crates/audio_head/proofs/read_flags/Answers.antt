-- `audio_head::read_flags` meets its contract, by HeadLaws: one law for each way out. Assumes nothing.
use Rattle.bits.proofs.Answers.{outcome_back}
use Rattle.audio_head.proofs.HeadLaws.{flags_short, previous_cut, next_cut, flags_long}
use Rattle.audio_head.proofs.read_flags.Goals as goal

pub returns-then-blockflag-eq0 : goal.returns-then-blockflag-eq0
returns-then-blockflag-eq0 c = flags_short _ _ _ _ _ c.block_size-blocksize.ensures c.if-blockflag-eq0.true

pub returns-in_err-previous : goal.returns-in_err-previous
returns-in_err-previous c =
    outcome_back c.from_residual.result _ c.from_residual.ensures.1
    (previous_cut _ _ _ _ _ c.block_size-blocksize.ensures c.if-blockflag-eq0.false c.bit.ensures c.in_err-previous.was)

pub returns-in_err-next : goal.returns-in_err-next
returns-in_err-next c =
    outcome_back c.from_residual-in_err-next.result _ c.from_residual-in_err-next.ensures.1
    (next_cut _ _ _ _ _ c.block_size-blocksize.ensures c.if-blockflag-eq0.false c.bit.ensures c.in_ok-previous.was c.bit-2.ensures c.in_err-next.was)

pub returns : goal.returns
returns c =
    flags_long _ _ _ _ _ c.block_size-blocksize.ensures c.if-blockflag-eq0.false c.bit.ensures c.in_ok-previous.was c.bit-2.ensures c.in_ok-next.was
