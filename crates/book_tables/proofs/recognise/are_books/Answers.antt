-- `book_tables::recognise::are_books` meets its contract: one content, whatever is answered. Assumes nothing.
use borrow.Author.Rules.{rules}
use Rattle.book_tables.proofs.BooksLeftLaws.{one_content}
use Rattle.book_tables.proofs.recognise.are_books.Goals as goal

pub returns-then-limits-multiplicands-clause-one_content : goal.returns-then-limits-multiplicands-clause-one_content
returns-then-limits-multiplicands-clause-one_content c = search (rules, one_content)
