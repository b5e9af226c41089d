-- `book_tables::judge::is_fit` meets its contract. Assumes nothing.
use Rattle.book_tables.proofs.TestLaws.{fit_part}
use borrow.Author.Rules.{rules}
use Rattle.book_tables.proofs.judge.is_fit.Goals as goal

pub returns : goal.returns
returns c = search (rules, fit_part)
