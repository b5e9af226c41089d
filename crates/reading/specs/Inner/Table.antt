-- A buffer that is filled from the front, one row of numbers after another.
use Rattle.std.specs.Prelude.{ℕ, ◌+◌, List, length}
use Rattle.std.proofs.lemmas.List.Edits.{sets}

-- the buffer, and the first place that is not written yet
pub record Table : Type 0 where
  pub cells : List ℕ
  pub at : ℕ

abbrev pub table : List ℕ → ℕ → Table
table cells at = record { cells = cells; at = at }

-- an item's row, written at the first free place. What lies past the buffer's end is not written
module _ {A : Type 0} where
  unfoldable pub put_row : (A → List ℕ) → A → Table → Table
  put_row row a t = table (sets t.cells t.at (row a)) (t.at + length (row a))
