-- `record_step::audio_step::answered` meets its contract, by AudioLaws. Assumes nothing.
use mathlib.Core.Path.{refl}
use Rattle.record_step.proofs.AudioLaws.{answer_refused, answer_accepted}
use Rattle.record_step.proofs.audio_step.answered.Goals as goal

pub returns-then-answer-ne0 : goal.returns-then-answer-ne0
returns-then-answer-ne0 c = answer_refused c.args.kept c.args.identity c.args.tally c.args.answer c.if-answer-ne0.true refl

pub returns : goal.returns
returns c = answer_accepted c.args.kept c.args.identity c.args.tally c.args.answer c.if-answer-ne0.false c.curve_bytes.ensures refl
