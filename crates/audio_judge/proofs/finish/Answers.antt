-- `audio_judge::finish` meets its contract, by JudgeLaws: the tally counted, or refusal 19. Assumes nothing.
use mathlib.Core.Path.{refl}
use Rattle.audio_judge.proofs.JudgeLaws.{finish_refused, finish_value}
use borrow.Author.Rules.{rules}
use Rattle.audio_judge.proofs.finish.Goals as goal

pub returns-in-None-clause-finished : goal.returns-in-None-clause-finished
returns-in-None-clause-finished c = (λ stop. finish_refused _ c.count.ensures _ _ _ stop c.number.ensures (search rules), refl)

pub returns-in-Some-clause-finished : goal.returns-in-Some-clause-finished
returns-in-Some-clause-finished c = (λ stop. finish_value _ c.count.ensures _ _ _ stop c.in-Some.is, refl)
