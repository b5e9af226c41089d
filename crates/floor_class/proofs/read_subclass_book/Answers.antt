-- `floor_class::read_subclass_book` meets its contract. Assumes nothing.
use Rattle.bits.proofs.Answers.{wrote_back}
use Rattle.floor_class.proofs.ClassLaws.{book_laws, book_unset, book_cut, book_set}
use Rattle.floor_class.proofs.read_subclass_book.Goals as goal

pub returns-in_err-v : goal.returns-in_err-v
returns-in_err-v c = wrote_back c.from_residual.result _ c.from_residual.ensures.1 (search (book_cut, c.in_err-v.was))

pub returns-then-book_count-v : goal.returns-then-book_count-v
returns-then-book_count-v c = search (book_unset, c.in_ok-v.was)

pub overflow_cast-v : goal.overflow_cast-v
overflow_cast-v c = search book_laws

pub returns : goal.returns
returns c = search (book_set, c.in_ok-v.was)
