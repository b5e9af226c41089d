-- `floor_curve::points::height_at` meets its contract. The product saturates at 255. Assumes nothing.
use Rattle.floor_curve.proofs.DrawLaws.{height_made}
use Rattle.floor_curve.proofs.points.height_at.Goals as goal

pub returns : goal.returns
returns c = height_made _ _ _ _ c.saturating_mul.ensures
