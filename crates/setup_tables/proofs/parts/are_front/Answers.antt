-- `setup_tables::parts::are_front` meets its contract. Assumes nothing.
use mathlib.Core.Bool.{not}
use mathlib.Core.Path.{ap}
use Rattle.setup_tables.proofs.Laws.{front_books, front_end}
use Rattle.setup_tables.proofs.parts.are_front.Goals as goal

pub returns-then-not-are_books : goal.returns-then-not-are_books
returns-then-not-are_books c = front_books _ _ _ _ _ _ _ c.are_books.ensures (ap not c.if-not-are_books.true)

pub returns : goal.returns
returns c = front_end _ _ _ _ _ _ _ c.are_books.ensures (ap not c.if-not-are_books.false) c.are_floors.ensures
