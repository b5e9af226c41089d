-- `floor_points::heights::clamp_all` meets its contract. The loop fills the final Y values from the heights. Assumes nothing.
use native.Mathlib.Omega.{arith}
use Rattle.floor_points.proofs.Filling.{fill_begin, fill_turn, fill_end}
use Rattle.floor_points.proofs.heights.clamp_all.Goals as goal

pub loop-k-init : goal.loop-k-init
loop-k-init c = fill_begin _ _ _ c.requires.0

pub loop-k-preserved : goal.loop-k-preserved
loop-k-preserved c = fill_turn _ _ _ _ _ c.loop-k.invariant (omega arith) c.clamp.ensures

pub shape_of-y : goal.shape_of-y
shape_of-y c = omega arith

pub returns : goal.returns
returns c = fill_end _ _ _ _ c.loop-k.invariant (omega arith)
