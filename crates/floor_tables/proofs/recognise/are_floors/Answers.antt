-- `floor_tables::recognise::are_floors` meets its contract. Assumes nothing.
use native.Mathlib.Omega.{arith}
use Rattle.reading.proofs.Encodes.{iff_false}
use Rattle.floor_tables.proofs.FloorLaws.{table_rows, table_end}
use Rattle.floor_tables.proofs.recognise.are_floors.Goals as goal

pub returns-then-floors-lt-FLOORS_NEED : goal.returns-then-floors-lt-FLOORS_NEED
returns-then-floors-lt-FLOORS_NEED c = iff_false (λ s. let r = s.room in omega arith)

pub returns-then-not-are_rows : goal.returns-then-not-are_rows
returns-then-not-are_rows c = search table_rows

pub returns : goal.returns
returns c = search table_end
