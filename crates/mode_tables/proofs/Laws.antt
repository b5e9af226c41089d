-- Modes in the tables: no two contents share a table. Assumes nothing.
use Prim.Native.Nat.{ℕ}
use mathlib.Core.List.{List}
use mathlib.Core.Path.{◌≡◌}
use Rattle.reading.proofs.Encodes.{encodes_same}
use Rattle.mode.specs.Layout.{mode_row}
use Rattle.mode.specs.Inner.Valid.{ValidMode}
use Rattle.mode.specs.Inner.Decode.{decode_mode}
use Rattle.mode.proofs.Laws.{mode_wide, decode_mode_lem}
use Rattle.mode_tables.specs.Inner.Recognised.{ModesRecognised}

-- no other modes share a table
pub one_content : (mappings n : ℕ) (cells : List ℕ) (a b : ModesRecognised mappings n cells) → a.items ≡ b.items
one_content mappings n cells a b = encodes_same mode_row (ValidMode mappings) 2 mode_wide decode_mode (λ m v. decode_mode_lem m) n cells a b
