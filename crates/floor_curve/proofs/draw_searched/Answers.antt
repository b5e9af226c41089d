-- `floor_curve::draw_searched` meets its contract. The loop keeps what is drawn: the curve up to a place at which a point lies (`DrawnUpTo`). Each turn moves right, since the next point lies right of that place. Assumes nothing.
use native.Mathlib.Omega.{arith}
use mathlib.Core.Path.{refl}
use Rattle.floor_curve.proofs.CurveLaws.{up_to_begin, up_to_line, up_to_flat, up_to_end, next_right}
use Rattle.floor_curve.proofs.draw_searched.Goals as goal

pub loop-at-init : goal.loop-at-init
loop-at-init c = up_to_begin _ _ _ _ _ c.requires

pub returns-in_default : goal.returns-in_default
returns-in_default c =
    up_to_flat c.args.x.now c.args.y.now c.args.flags.now c.args.multiplier _ _ _ _ _ _ _
    (λ k. omega (arith, c.type_inv.x k)) c.loop-at.invariant c.last_at-l.ensures.0
    c.in_default.ensures.0 refl c.height_at.ensures c.draw_flat.ensures

pub loop-at-smaller : goal.loop-at-smaller
loop-at-smaller c =
    let h = next_right c.args.x.now
    c.args.flags.now
    c.loop-at.at
    _ _ c.in-Some.ensures.0 c.in-Some.ensures.1 refl in omega arith

pub loop-at-preserved : goal.loop-at-preserved
loop-at-preserved c =
    up_to_line c.args.x.now
    c.args.y.now
    c.args.flags.now
    c.args.multiplier _ _ _ _ _ _ _ _ _ _ _
    c.requires
    c.loop-at.invariant
    c.last_at-l.ensures.0
    c.in-Some.ensures.0 c.in-Some.ensures.1 refl
    c.height_at-in-loop-at.ensures refl c.height_at-in-loop-at-2.ensures
    c.draw_line.ensures refl

pub shape_of-out : goal.shape_of-out
shape_of-out c = omega arith

pub returns : goal.returns
returns c = up_to_end _ _ _ _ _ _ _ c.loop-at.invariant (omega arith)
