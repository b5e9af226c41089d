-- `book_tables::judge::is_coded` meets its contract. Assumes nothing.
use Rattle.book_tables.proofs.TestLaws.{coded_part}
use borrow.Author.Rules.{rules}
use Rattle.book_tables.proofs.judge.is_coded.Goals as goal

pub returns : goal.returns
returns c = search (rules, coded_part)
