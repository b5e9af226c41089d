-- A class of a floor and the codebooks as they lie in the tables of a setup (docs/TABLES.md).
use Rattle.std.specs.Prelude.{ℕ, ◌+◌, ◌-◌, ◌*◌, ◌≤◌, ◌<◌, List, ◌≡◌}
use Rattle.book.specs.Layout.{entries_at}
use Rattle.book_codeword.specs.Inner.Stored.{BookStored}
use Rattle.floor.specs.Content.{Class}
use Rattle.floor.specs.Inner.Decode.{class_at}
use Rattle.floor.specs.Inner.Valid.{ValidClass}
use Rattle.floor.specs.Layout.{floor_width, classes_place, class_width}

-- class number c of floor number n
unfoldable pub class_in : List ℕ → ℕ → ℕ → Class
class_in floors n c = class_at floors (floor_width * n + classes_place + class_width * c)

-- a book that lies in the tables and has at most 65,536 entries, so that an entry's number fits 16 bits
pub record Readable (books lengths codewords : List ℕ) (b : ℕ) : Type 0 where
  pub stored : BookStored books lengths codewords b
  pub few : entries_at books b ≤ 65536

-- the book of a place, where it holds one
pub record PlaceStored (books lengths codewords : List ℕ) (place : ℕ) : Type 0 where
  pub readable : (place ≡ 0 → ⊥) → Readable books lengths codewords (place - 1)

-- class number c of floor number n meets every rule for `count` books, each of which lies in the tables
pub record ClassStored (floors books lengths codewords : List ℕ) (n c : ℕ) : Type 0 where
  pub floor_few : n < 64
  pub class_few : c < 16
  pub count : ℕ
  pub valid : ValidClass count (class_in floors n c)
  pub readable : (b : ℕ) → b < count → Readable books lengths codewords b
