-- `figures::proved` meets its contract, by the table. Assumes nothing.
use Rattle.figures.proofs.Table.{figures}
use Rattle.figures.proofs.proved.Goals as goal

pub returns : goal.returns
returns c = figures
