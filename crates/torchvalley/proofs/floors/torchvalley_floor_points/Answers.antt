-- `torchvalley::floors::torchvalley_floor_points` meets its contract, by the call's own and by the table of figures. Assumes nothing.
use borrow.Author.Rules.{rules}
use Rattle.figures.proofs.Table.{figures}
use Rattle.torchvalley.proofs.floors.torchvalley_floor_points.Goals as goal

pub returns : goal.returns
returns c = record { flags_after = search rules; figures = figures }
