-- `book_tables::row::row_at` meets its contract. Assumes nothing.
use Rattle.book_tables.proofs.TestLaws.{row_made}
use borrow.Author.Rules.{rules}
use Rattle.book_tables.proofs.row.row_at.Goals as goal

pub returns : goal.returns
returns c = search (rules, row_made)
