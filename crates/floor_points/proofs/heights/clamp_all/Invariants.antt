-- `floor_points::heights::clamp_all` meets its contract. The loop fills the final Y values from the heights. Assumes nothing.
use Rattle.floor_points.proofs.Filling.{Filling}
use Rattle.floor_points.specs.Inner.Heights.{clamped_height}
use Rattle.floor_points.proofs.heights.clamp_all.Given as goal

abbrev pub invariant-loop-k : goal.invariant-loop-k
invariant-loop-k l = Filling (clamped_height l.range) l.heights l.y l.k
