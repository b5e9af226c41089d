-- What the program puts together of a floor from its buffers: its row. Nothing is added to what is read.
use Rattle.std.specs.Prelude.{ℕ, ◌+◌, List, [], ◌∷◌, ◌++◌, length}
use Rattle.reading.specs.Pad.{pad}
use Rattle.floor.specs.Content.{x_list_room, x_list}
use Rattle.floor.specs.XListReading.{Ends}

-- a floor's row, where partitions and classes lie in their buffers
unfoldable pub row_of : ℕ → ℕ → List ℕ → List ℕ → Ends → List ℕ
row_of count class_count partitions classes e =
    (count ∷ class_count ∷ e.multiplier ∷ e.rangebits ∷ (2 + length e.xs) ∷ [])
    ++ (partitions ++ (classes ++ pad x_list_room (x_list e.rangebits e.xs)))
