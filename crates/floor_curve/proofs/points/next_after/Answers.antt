-- `floor_curve::points::next_after` meets its contract. The loop keeps what the rest of the search gives. Assumes nothing.
use native.Mathlib.Omega.{arith}
use Rattle.floor_line.proofs.Searching.{turned, ended}
use Rattle.floor_curve.specs.Curve.{takes_right}
use Rattle.std.specs.Prelude.{Option, IfSome, unwrap_or}
use mathlib.Core.Bool.{cond}
use mathlib.Core.Path.{◌≡◌, ap, ◌∙◌}
use Prim.Native.Nat.{ℕ, ◌<◌}
use lib.ListN.{length}
use Rattle.floor_curve.proofs.PointLaws.{right_begun, right_takes, right_best, right_left, right_unset, is_next}
use Rattle.floor_curve.proofs.points.next_after.Goals.{then-flags-j-ne0+then-at-x+then-x-j, else-flags-j-ne0, else-flags-j-ne0-via-then-flags-j-ne0+then-at-x+else-x-j, else-flags-j-ne0-via-then-flags-j-ne0+else-at-x, else-flags-j-ne0-via-else-flags-j-ne0}
use Rattle.floor_curve.proofs.points.next_after.Goals as goal

pub loop-j-init : goal.loop-j-init
loop-j-init c = (tt, right_begun _ _ _)

pub loop-j-preserved : goal.loop-j-preserved
loop-j-preserved c =
    let n : ℕ = length c.args.x.now in
    let held : ℕ = unwrap_or c.loop-j.best n in
    let e : unwrap_or c.if-flags-j-ne0.best n ≡ cond (takes_right c.args.x.now c.args.flags.now c.args.at c.loop-j.j held) c.loop-j.j held =
    elim c.if-flags-j-ne0.branch [
      | then-flags-j-ne0+then-at-x+then-x-j w ↦ ap (λ (o : Option ℕ). unwrap_or o n) w.best-is ∙ right_takes _ _ _ _ _ (omega arith) (omega arith) (omega arith) (omega arith)
      | else-flags-j-ne0 w ↦
          ap (λ (o : Option ℕ). unwrap_or o n) w.best-is
          ∙ elim w.else-flags-j-ne0.branch [
            | else-flags-j-ne0-via-then-flags-j-ne0+then-at-x+else-x-j w' ↦ right_best _ _ _ _ _ (omega arith) (omega arith) (omega arith) (omega arith)
            | else-flags-j-ne0-via-then-flags-j-ne0+else-at-x w' ↦ right_left _ _ _ _ _ (omega arith) (omega arith) (omega arith)
            | else-flags-j-ne0-via-else-flags-j-ne0 w' ↦ right_unset _ _ _ _ _ (omega arith)
          ]
    ]
    in
    let inside : IfSome c.if-flags-j-ne0.best (λ b. b < n) =
    elim c.if-flags-j-ne0.branch [
      | then-flags-j-ne0+then-at-x+then-x-j w ↦ rw w.best-is (omega arith)
      | else-flags-j-ne0 w ↦ rw w.best-is c.loop-j.invariant.0
    ]
    in
    (inside, turned (takes_right _ _ _) _ _ _ _ _ e (omega arith) c.loop-j.invariant.1)

pub returns : goal.returns
returns c = let e = ended (takes_right _ _ _) _ _ _ _ (omega arith) c.loop-j.invariant.1 in (e, c.loop-j.invariant.0, is_next _ _ _ _ e)
