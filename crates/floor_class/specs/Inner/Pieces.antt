-- The row of a class in the pieces in which the program reads it: the books are read last.
use Rattle.std.specs.Prelude.{ℕ, List}
use Rattle.floor.specs.Layout.{class_row}

-- the row of a class whose books were read last
unfoldable pub class_row_of : ℕ → ℕ → ℕ → List ℕ → List ℕ
class_row_of dimensions subclasses master books = class_row (record { dimensions = dimensions; subclasses = subclasses; master = master; books = books })
