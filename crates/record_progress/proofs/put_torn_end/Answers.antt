-- `record_progress::put_torn_end` meets its contract, by LastLaws. Assumes nothing.
use native.Mathlib.Omega.{arith}
use Rattle.record_progress.proofs.LastLaws.{torn_end_put}
use Rattle.record_progress.proofs.put_torn_end.Goals as goal

pub returns : goal.returns
returns c =
    let w = torn_end_put _ _ _ c.put_torn-end.ensures.out_after c.put_torn-end.ensures.value.0 c.put_end.ensures.out_after c.put_end.ensures.value.0 in
    let a = c.put_torn-end.ensures.value.1 in
    let b = c.put_end.ensures.value.1 in
    (w.0, w.1, omega (arith, a, b))
