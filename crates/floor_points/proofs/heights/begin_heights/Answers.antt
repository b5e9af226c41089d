-- `floor_points::heights::begin_heights` meets its contract. The loop fills the heights from the values, which are below 65,536. Assumes nothing.
use native.Mathlib.Omega.{arith}
use mathlib.Core.Path.{refl}
use Rattle.floor_points.proofs.Filling.{fill_begin, fill_turn, fill_end}
use Rattle.floor_points.proofs.Stepping.{filled_bounded}
use Rattle.floor_points.proofs.heights.begin_heights.Goals as goal

pub loop-i-init : goal.loop-i-init
loop-i-init c = fill_begin _ _ _ c.requires

pub overflow_add-heights : goal.overflow_add-heights
overflow_add-heights c = omega (arith, c.type_inv.values c.loop-i.i)

pub loop-i-preserved : goal.loop-i-preserved
loop-i-preserved c = fill_turn _ _ _ _ _ c.loop-i.invariant (omega arith) refl

pub shape_of-heights : goal.shape_of-heights
shape_of-heights c = omega arith

pub returns : goal.returns
returns c = (fill_end _ _ _ _ c.loop-i.invariant (omega arith), filled_bounded _ _ _ c.loop-i.invariant (omega arith) (λ k. omega (arith, c.type_inv.values k)))
