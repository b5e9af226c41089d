-- `floor_reading::write_row` meets its contract. Assumes nothing.
use Rattle.floor_reading.proofs.RowLaws.{two_runs_at}
use borrow.Author.Rules.{rules}
use Rattle.floor_reading.proofs.write_row.Goals as goal

pub returns : goal.returns
returns c = search (rules, two_runs_at)
