-- `floor_curve::lines::draw_flat` meets its contract. The loop draws the places from the left (`DrawnSoFar`), up to the length. Assumes nothing.
use native.Mathlib.Omega.{arith}
use mathlib.Core.Path.{refl}
use Rattle.floor_curve.proofs.DrawLaws.{draw_begin, draw_turn, flat}
use Rattle.floor_curve.proofs.lines.draw_flat.Goals as goal

pub loop-x-init : goal.loop-x-init
loop-x-init c = draw_begin _ _ _

pub bounds-out-x : goal.bounds-out-x
bounds-out-x c = omega arith

pub loop-x-smaller : goal.loop-x-smaller
loop-x-smaller c = omega arith

pub loop-x-preserved : goal.loop-x-preserved
loop-x-preserved c = draw_turn _ _ _ _ _ _ c.loop-x.invariant (omega arith) refl

pub shape_of-out : goal.shape_of-out
shape_of-out c = omega arith

pub returns : goal.returns
returns c = flat _ _ _ _ _ c.loop-x.invariant (omega arith)
