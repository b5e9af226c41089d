-- `book_tables::judge::is_marked` meets its contract. Assumes nothing.
use Rattle.book_tables.proofs.TestLaws.{marked}
use borrow.Author.Rules.{rules}
use Rattle.book_tables.proofs.judge.is_marked.Goals as goal

pub returns : goal.returns
returns c = search (rules, marked)
