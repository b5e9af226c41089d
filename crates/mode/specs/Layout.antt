-- A mode's row in the table of modes: 2 numbers. docs/TABLES.md draws it.
use Rattle.std.specs.Prelude.{ℕ, ◌*◌, List, [], ◌∷◌}
use Rattle.mode.specs.Content.{Mode}

-- the width of a row; the fixed need of the table, of 64 rows
abbrev pub mode_width : ℕ
mode_width = 2

abbrev pub modes_need : ℕ
modes_need = 64 * mode_width

unfoldable pub mode_row : Mode → List ℕ
mode_row m = m.blockflag ∷ m.mapping ∷ []
