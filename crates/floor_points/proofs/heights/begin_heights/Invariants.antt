-- `floor_points::heights::begin_heights` meets its contract. The loop fills the heights from the values, which are below 65,536. Assumes nothing.
use Rattle.floor_points.proofs.Filling.{Filling}
use Rattle.floor_points.specs.Inner.Heights.{height_of}
use Rattle.floor_points.proofs.heights.begin_heights.Given as goal

abbrev pub invariant-loop-i : goal.invariant-loop-i
invariant-loop-i l = Filling height_of l.values l.heights l.i
