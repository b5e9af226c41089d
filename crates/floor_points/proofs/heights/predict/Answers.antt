-- `floor_points::heights::predict` meets its contract. The point on the line between the neighbours stays below 131,072, as every height does. Assumes nothing.
use Rattle.floor_points.proofs.Stepping.{point_bounded}
use Rattle.floor_points.proofs.heights.predict.Goals as goal

pub returns : goal.returns
returns c = (
  c.line_height.ensures,
  point_bounded _ _ _ _ _ _ _ c.requires.0 c.line_height.ensures,
)
