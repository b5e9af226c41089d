-- `floor_points::refuse` meets its contract. Both lists are cleared. Assumes nothing.
use Rattle.floor_points.proofs.FitLaws.{refused}
use Rattle.floor_points.proofs.refuse.Goals as goal

pub returns : goal.returns
returns c = refused c.clear.ensures c.clear-2.ensures
