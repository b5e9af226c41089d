-- A floor's row in the table of floors: 277 numbers, and within it the row of each class: 11. docs/TABLES.md draws them.
use Rattle.std.specs.Prelude.{ℕ, ◌+◌, ◌*◌, List, [], ◌∷◌, ◌++◌, length}
use Rattle.reading.specs.Pad.{pad}
use Rattle.reading.specs.Lists.{rows}
use Rattle.floor.specs.Content.{x_list_room, x_list, Floor, Class}

-- A CLASS: the width of its row, and how many places its subclass books have
abbrev pub class_width : ℕ
class_width = 11

abbrev pub subclass_books_room : ℕ
subclass_books_room = 8

unfoldable pub class_row : Class → List ℕ
class_row c = c.dimensions ∷ c.subclasses ∷ c.master ∷ pad subclass_books_room c.books

-- A FLOOR: the width of its row; the fixed need of the table, of 64 rows; where its partitions, its classes, its X list begin, and in the list 2 ^ rangebits and the X values that are read; how many places
-- partitions (31) and classes (16 of 11) have
abbrev pub floor_width : ℕ
floor_width = 277

abbrev pub floors_need : ℕ
floors_need = 64 * floor_width

abbrev pub partitions_place : ℕ
partitions_place = 5

abbrev pub classes_place : ℕ
classes_place = 36

abbrev pub x_list_place : ℕ
x_list_place = 212

abbrev pub range_place : ℕ
range_place = 213

abbrev pub x_values_place : ℕ
x_values_place = 214

abbrev pub partitions_room : ℕ
partitions_room = 31

abbrev pub classes_room : ℕ
classes_room = 176

-- 5 counts, then partitions, classes, the X list
unfoldable pub floor_row : Floor → List ℕ
floor_row f =
    (length f.partitions ∷ length f.classes ∷ f.multiplier ∷ f.rangebits ∷ (2 + length f.xs) ∷ [])
    ++ (pad partitions_room f.partitions ++ (pad classes_room (rows class_row f.classes) ++ pad x_list_room (x_list f.rangebits f.xs)))
