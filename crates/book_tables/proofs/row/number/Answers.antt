-- `book_tables::row::number` meets its contract. Assumes nothing.
use Rattle.book_tables.proofs.TestLaws.{number_at}
use borrow.Author.Rules.{rules}
use Rattle.book_tables.proofs.row.number.Goals as goal

pub returns : goal.returns
returns c = search (rules, number_at)
