-- `book_row::mark::lone_mark_at` meets its contract, by Marks. Assumes nothing.
use borrow.Author.Rules.{rules}
use Rattle.book_row.proofs.Marks.{mark_part}
use Rattle.book_row.proofs.mark.lone_mark_at.Goals as goal

pub returns : goal.returns
returns c = search (rules, mark_part)
