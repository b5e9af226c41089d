-- `numbers::write_pair` meets its contract. Assumes nothing.
use Rattle.numbers.proofs.Collected.{two_runs}
use borrow.Author.Rules.{rules}
use Rattle.numbers.proofs.write_pair.Goals as goal

pub returns : goal.returns
returns c = search (rules, two_runs)
