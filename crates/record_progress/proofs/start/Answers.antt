-- `record_progress::start` meets its contract: what is left to write before the first record is the whole output. Assumes nothing.
use mathlib.Core.Path.{refl, ◌∙◌, ap}
use Rattle.record_step.specs.Step.{Stream}
use Rattle.record_progress.specs.Report.{report, lines_after}
use Rattle.record_progress.specs.Inner.Progress.{lines_left}
use Rattle.record_progress.proofs.SessionLaws.{session_puts}
use Rattle.record_progress.proofs.start.Goals as goal

pub returns : goal.returns
unfolding report lines_left
returns c =
    let stream = c.first.ensures.stream in
    record {
      kept = c.first.ensures;
      all = λ t s. ap (λ (x : Stream). lines_after x 0 s) (stream t);
      whole = λ t come out r. session_puts r ∙ ap (λ (x : Stream). lines_after x 0 come) (stream t);
      number = refl;
      from = refl;
      ends = refl;
    }
