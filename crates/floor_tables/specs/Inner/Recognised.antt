-- When a table of floors is the writing-out of floors that meet every rule (01, "What the reader takes and gives").
use Rattle.std.specs.Prelude.{ℕ, ◌≤◌, List, ◌≡◌, length}
use Rattle.reading.specs.Lists.{rows}
use Rattle.reading.specs.Pad.{pad}
use Rattle.reading.specs.Encoding.{Each}
use Rattle.floor.specs.Content.{Floor}
use Rattle.floor.specs.Layout.{floors_need, floor_row}
use Rattle.floor.specs.Inner.Valid.{ValidFloor}

-- `count` floors, each right for `books` codebooks, fill the table from its front, and zeros follow. 17,728 is the fixed need: 64 rows of 277
pub record FloorsRecognised (books count : ℕ) (t : List ℕ) : Type 0 where
  pub room : floors_need ≤ length t
  pub content : List Floor
  pub counted : length content ≡ count
  pub valid : Each (ValidFloor books) content
  pub written : t ≡ pad (length t) (rows floor_row content)
