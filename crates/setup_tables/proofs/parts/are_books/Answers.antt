-- `setup_tables::parts::are_books` meets its contract. Assumes nothing.
use Rattle.setup_tables.proofs.Laws.{books_countable, books_said}
use Rattle.setup_tables.proofs.parts.are_books.Goals as goal

pub are_books-requires : goal.are_books-requires
are_books-requires c = search books_countable

pub returns : goal.returns
returns c = books_said _ _ _ _ _ c.get.ensures c.are_books.ensures.variant
