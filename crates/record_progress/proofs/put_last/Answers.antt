-- `record_progress::put_last` meets its contract, by LastLaws: one law for each way that the input ends. Assumes nothing.
use Rattle.record_progress.proofs.LastLaws.{last_torn, last_end}
use Rattle.record_progress.proofs.put_last.Goals as goal

pub returns-then-progress-gt0 : goal.returns-then-progress-gt0
returns-then-progress-gt0 c = last_torn c.requires c.then-progress-gt0.either c.put_torn_end.ensures

pub returns : goal.returns
returns c =
    last_end c.requires c.if-progress-gt0.false c.if-progress-input.false c.put_end.ensures.out_after c.put_end.ensures.value
