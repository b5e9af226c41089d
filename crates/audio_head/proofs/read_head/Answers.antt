-- `audio_head::read_head` meets its contract, by HeadLaws: one law for each way out. Assumes nothing.
use Prim.Native.Nat.{ℕ}
use mathlib.Core.List.{List}
use Rattle.bits.proofs.Answers.{outcome_back}
use Rattle.audio_head.proofs.HeadLaws.{type_cut, type_wrong, type_right}
use Rattle.audio_head.proofs.read_head.Goals as goal

pub returns-in_err-type_bit : goal.returns-in_err-type_bit
returns-in_err-type_bit c = λ (lengths_of : ℕ → List ℕ).
    outcome_back c.from_residual.result _ c.from_residual.ensures.1 (type_cut _ _ _ _ _ c.start-start.ensures c.bit.ensures c.in_err-type_bit.was lengths_of)

pub returns-then-type_bit-ne0 : goal.returns-then-type_bit-ne0
returns-then-type_bit-ne0 c = type_wrong _ _ _ _ _ c.start-start.ensures c.bit.ensures c.in_ok-type_bit.was c.if-type_bit-ne0.true

pub returns : goal.returns
returns c = type_right _ _ _ _ _ c.start-start.ensures c.bit.ensures c.in_ok-type_bit.was c.if-type_bit-ne0.false c.read_mode.ensures
