-- A floor as it lies in the tables of a setup (docs/TABLES.md), with the codebooks that it names.
use Rattle.std.specs.Prelude.{ℕ, ◌+◌, ◌*◌, ◌≤◌, ◌<◌, List, length}
use Rattle.floor.specs.Content.{Floor}
use Rattle.floor.specs.Inner.Decode.{floor_at}
use Rattle.floor.specs.Inner.Valid.{ValidFloor}
use Rattle.floor_partition.specs.Inner.Stored.{Readable}
use Rattle.floor.specs.Layout.{floor_width}

-- floor number n
unfoldable pub floor_in : List ℕ → ℕ → Floor
floor_in floors n = floor_at floors (floor_width * n)

-- floor number n meets every rule for `count` books, each of which lies in the tables
pub record FloorStored (floors books lengths codewords : List ℕ) (n : ℕ) : Type 0 where
  pub few : n < 64
  pub room : floor_width * n + floor_width ≤ length floors
  pub count : ℕ
  pub valid : ValidFloor count (floor_in floors n)
  pub readable : (b : ℕ) → b < count → Readable books lengths codewords b
