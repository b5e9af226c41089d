-- `floor_curve::draw_linked` meets its contract. The loop keeps what is drawn: the curve up to the place at which the left point lies (`DrawnUpToPoint`). Each turn moves
-- right, since the next point lies right of that place. Assumes nothing.
use native.Mathlib.Omega.{arith}
use mathlib.Core.Path.{refl}
use Rattle.floor_curve.proofs.CurveLaws.{up_to_end}
use Rattle.floor_curve.proofs.LinkedLaws.{point_begin, point_right, point_line, point_flat}
use Rattle.floor_curve.proofs.draw_linked.Goals as goal

pub loop-at-init : goal.loop-at-init
loop-at-init c =
    point_begin _ _ _ _ _ _ c.requires.0 c.requires.1

pub returns-in_default : goal.returns-in_default
returns-in_default c =
    point_flat _ _ _ _ _ _ c.requires.0 c.requires.1 _ _ _ _ c.loop-at.invariant c.in_default.ensures.0 _ _ refl
    c.height_at.ensures c.draw_flat.ensures

pub loop-at-smaller : goal.loop-at-smaller
loop-at-smaller c =
    let h = point_right _ _ _ _ _ _ c.requires.0 c.requires.1 _ _ _ _ c.loop-at.invariant c.in-Some.ensures.0 _ c.in-Some.ensures.1 refl in omega arith

pub loop-at-preserved : goal.loop-at-preserved
loop-at-preserved c =
    point_line _ _ _ _ _ _ c.requires.0 c.requires.1 _ _ _ _ c.loop-at.invariant c.in-Some.ensures.0 _ _ _ _ _ _ c.in-Some.ensures.1 refl c.height_at-in-loop-at.ensures refl c.height_at-in-loop-at-2.ensures c.draw_line.ensures refl

pub shape_of-out : goal.shape_of-out
shape_of-out c = omega arith

pub returns : goal.returns
returns c = up_to_end _ _ _ _ _ _ _ c.loop-at.invariant.drawn (omega arith)
