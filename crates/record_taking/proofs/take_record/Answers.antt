-- `take_record` meets its contract: behind the head of a record that is too long, by TakingLaws. Assumes nothing.
use native.Mathlib.Omega.{arith}
use mathlib.Core.Path.{sym, ◌∙◌}
use Rattle.record_progress.proofs.TakingLaws.{front_rest, skips_taken, skips_within, skips_moves}
use Rattle.record_taking.proofs.take_record.Goals as goal

pub returns-in-TooLong-clause-taken : goal.returns-in-TooLong-clause-taken
returns-in-TooLong-clause-taken c =
    let h = front_rest c.args.progress.from c.args.input.now (sym c.in-TooLong.is ∙ c.look.ensures) in
    skips_taken c.requires.room c.skip_body.ensures h _ (omega arith)

pub returns-in-TooLong-clause-within : goal.returns-in-TooLong-clause-within
returns-in-TooLong-clause-within c =
    let h = front_rest c.args.progress.from c.args.input.now (sym c.in-TooLong.is ∙ c.look.ensures) in
    (skips_within c.requires.room c.skip_body.ensures h, skips_moves c.requires.room c.skip_body.ensures h)
