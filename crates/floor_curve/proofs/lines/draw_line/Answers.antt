-- `floor_curve::lines::draw_line` meets its contract. The loop draws the places from the left (`DrawnSoFar`), up to the lesser of x1 and the length. Assumes nothing.
use native.Mathlib.Omega.{arith}
use Rattle.floor_curve.proofs.DrawLaws.{draw_begin, draw_turn, drawn}
use Rattle.floor_curve.proofs.lines.draw_line.Goals as goal

pub loop-x-init : goal.loop-x-init
loop-x-init c = (draw_begin _ _ _, omega arith)

pub line_at-requires : goal.line_at-requires
line_at-requires c = omega arith

pub bounds-out-x : goal.bounds-out-x
bounds-out-x c = omega arith

pub loop-x-smaller : goal.loop-x-smaller
loop-x-smaller c = omega arith

pub loop-x-preserved : goal.loop-x-preserved
loop-x-preserved c = (draw_turn _ _ _ _ _ _ c.loop-x.invariant.0 (omega arith) c.line_at.ensures, omega arith)

pub shape_of-out : goal.shape_of-out
shape_of-out c = omega arith

pub returns : goal.returns
returns c = drawn _ _ _ _ _ _ _ _ c.loop-x.invariant.0 (omega arith) c.loop-x.invariant.1 (omega arith)
