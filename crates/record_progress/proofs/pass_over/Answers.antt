-- `record_progress::pass_over` meets its contract, by TakingLaws: the body goes on, or it ends among what was read. Assumes nothing.
use Rattle.record_progress.proofs.TakingLaws.{some_taken, all_taken}
use Rattle.record_progress.proofs.pass_over.Goals as goal

pub returns-then-present-progress-clause-taken : goal.returns-then-present-progress-clause-taken
returns-then-present-progress-clause-taken c = λ t. some_taken c.requires.0 c.requires.1 t c.if-present-progress.true

pub returns-clause-taken : goal.returns-clause-taken
returns-clause-taken c = λ t. all_taken c.requires.0 c.requires.1 c.if-present-progress.false t c.put_line.ensures.out_after c.put_line.ensures.value.0
