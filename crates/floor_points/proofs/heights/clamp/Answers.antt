-- `floor_points::heights::clamp` meets its contract. A height below 65,536 is no more than 0 above it. Assumes nothing.
use Rattle.floor_points.proofs.Unwrapping.{clamp_made}
use Rattle.floor_points.proofs.heights.clamp.Goals as goal

pub returns : goal.returns
returns c = clamp_made _ _ _ _ c.saturating_sub.ensures c.min.ensures
