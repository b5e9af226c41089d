-- `setup_tables::parts::are_floors` meets its contract. Assumes nothing.
use Rattle.setup_tables.proofs.Laws.{few_books, few_floors, floors_said}
use Rattle.setup_tables.proofs.parts.are_floors.Goals as goal

pub are_floors-requires : goal.are_floors-requires
are_floors-requires c = search (few_books, few_floors)

pub returns : goal.returns
returns c = floors_said _ c.get-book_count.ensures c.get-floor_count.ensures c.are_floors.ensures
