-- `floor_curve::points::last_at` meets its contract. The loop keeps what the rest of the search gives. Assumes nothing.
use native.Mathlib.Omega.{arith}
use Rattle.floor_line.proofs.Searching.{turned, turned_below, ended}
use Rattle.floor_curve.specs.Curve.{takes_left}
use mathlib.Core.Bool.{cond}
use mathlib.Core.Path.{◌≡◌, ◌∙◌}
use Rattle.floor_curve.proofs.PointLaws.{left_begun, left_takes, left_best, left_right, left_unset, is_last}
use Rattle.floor_curve.proofs.points.last_at.Goals.{then-flags-j-ne0+then-x-j+then-x-best, else-flags-j-ne0, else-flags-j-ne0-via-then-flags-j-ne0+then-x-j+else-x-best, else-flags-j-ne0-via-then-flags-j-ne0+else-x-j, else-flags-j-ne0-via-else-flags-j-ne0}
use Rattle.floor_curve.proofs.points.last_at.Goals as goal

pub loop-j-init : goal.loop-j-init
loop-j-init c = (omega arith, left_begun _ _ _)

pub loop-j-preserved : goal.loop-j-preserved
loop-j-preserved c =
    let e : c.if-flags-j-ne0.best ≡ cond (takes_left c.args.x.now c.args.flags.now c.args.at c.loop-j.j c.loop-j.best) c.loop-j.j c.loop-j.best =
    elim c.if-flags-j-ne0.branch [
      | then-flags-j-ne0+then-x-j+then-x-best w ↦ w.best-is ∙ left_takes _ _ _ _ _ (omega arith) (omega arith) (omega arith)
      | else-flags-j-ne0 w ↦
          w.best-is
          ∙ elim w.else-flags-j-ne0.branch [
            | else-flags-j-ne0-via-then-flags-j-ne0+then-x-j+else-x-best w' ↦ left_best _ _ _ _ _ (omega arith) (omega arith) (omega arith)
            | else-flags-j-ne0-via-then-flags-j-ne0+else-x-j w' ↦ left_right _ _ _ _ _ (omega arith) (omega arith)
            | else-flags-j-ne0-via-else-flags-j-ne0 w' ↦ left_unset _ _ _ _ _ (omega arith)
          ]
    ]
    in
    (turned_below (takes_left _ _ _) _ _ _ _ e (omega arith) (omega arith), turned (takes_left _ _ _) _ _ _ _ _ e (omega arith) c.loop-j.invariant.1)

pub returns : goal.returns
returns c = let e = ended (takes_left _ _ _) _ _ _ _ (omega arith) c.loop-j.invariant.1 in (e, omega arith, λ h. is_last _ _ _ _ e h)
