-- How a call leaves the tables, once its answer is known (01, "Every refusal returns its number alone").
use Rattle.std.specs.Prelude.{ℕ, Result, Ok, Err}
use Rattle.bits.specs.declared.Cursor.{Cursor}
use Rattle.setup.specs.Layout.{Tables, cleared}
use Rattle.setup.specs.Call.{Left, left}

-- read through: 0, and the tables as they are. Refused: the number, and every table all zero
unfoldable pub settled : Result Cursor ℕ → Tables → Left
settled (Ok c) t = left 0 t
settled (Err n) t = left n (cleared t)
