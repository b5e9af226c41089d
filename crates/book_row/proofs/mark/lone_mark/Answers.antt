-- `book_row::mark::lone_mark` meets its contract, by the laws of a sole used entry. Assumes nothing.
use borrow.Author.Rules.{rules}
use Rattle.codeword_assignment.proofs.Lone.{mark_zero, mark_asked, mark_entry}
use Rattle.book_row.proofs.mark.lone_mark.Goals as goal

pub returns-then-not-is_lone : goal.returns-then-not-is_lone
returns-then-not-is_lone c = search (rules, mark_zero)

pub first_used-requires : goal.first_used-requires
first_used-requires c = search (rules, mark_asked)

pub returns : goal.returns
returns c = search (rules, mark_entry)
