-- Which tables of modes a later call accepts (01, "What the reader takes and gives").
use Rattle.std.specs.Prelude.{ℕ, List}
use Rattle.reading.specs.Encoding.{Encodes}
use Rattle.mode.specs.Layout.{mode_row}
use Rattle.mode.specs.Inner.Valid.{ValidMode}

-- the writing-out of so many modes, each of which meets every rule where `mappings` mappings are set up; zeros behind the last row
abbrev pub ModesRecognised : ℕ → ℕ → List ℕ → Type 0
ModesRecognised mappings count cells = Encodes mode_row (ValidMode mappings) count cells
