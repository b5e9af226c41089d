-- `book_lengths::lengths::read_runs` meets its contract, by LengthLaws. Assumes nothing.
use native.Mathlib.Omega.{arith}
use borrow.Author.Rules.{rules}
use Rattle.bits.proofs.Answers.{wrote_back}
use Rattle.book_lengths.proofs.LengthLaws.{running_start, running_long, running_refused, running_fits, running_next, running_done, run_filled}
use Rattle.book_lengths.proofs.lengths.read_runs.Goals as goal

pub loop-entry-init : goal.loop-entry-init
loop-entry-init c = (search rules, running_start _ _ _ _ _ (search rules))

pub returns-then-bits-gt32 : goal.returns-then-bits-gt32
returns-then-bits-gt32 c = running_long _ _ _ _ _ c.loop-entry.invariant.1 (search rules) c.if-bits-gt32.true _

pub returns-in_err-number : goal.returns-in_err-number
returns-in_err-number c =
    wrote_back c.from_residual.result _ c.from_residual.ensures.1
    (running_refused _ _ _ _ _ c.loop-entry.invariant.1 (search rules) (search rules) c.read_run.ensures c.in_err-number.was _)

pub slice_bounds-fill-end : goal.slice_bounds-fill-end
slice_bounds-fill-end c = running_fits _ _ _ _ _ c.loop-entry.invariant.1 (search rules) (search rules) c.read_run.ensures c.in_ok-number.was

pub loop-entry-preserved : goal.loop-entry-preserved
loop-entry-preserved c =
    let w = c.loop-entry.invariant.1 in
    let f = running_fits _ _ _ _ _ w (search rules) (search rules) c.read_run.ensures c.in_ok-number.was in (
      search rules,
      running_next _ _ _ _ _ w (search rules) (search rules) c.read_run.ensures c.in_ok-number.was _ (run_filled _ _ _ _ _ _ f (omega arith) (c.fill.ensures.after (λ y e. e))),
    )

pub returns : goal.returns
returns c = running_done _ _ _ _ _ c.loop-entry.invariant.1 (search rules)
