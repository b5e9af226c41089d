-- A mode read back from its row.
use Rattle.std.specs.Prelude.{ℕ, List, get_or}
use Rattle.mode.specs.Content.{Mode}

abbrev pub mode_of : ℕ → ℕ → Mode
mode_of blockflag mapping = record { blockflag = blockflag; mapping = mapping }

unfoldable pub decode_mode : List ℕ → Mode
decode_mode row = mode_of (get_or row 0 0) (get_or row 1 0)
