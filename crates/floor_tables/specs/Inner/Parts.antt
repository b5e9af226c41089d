-- Rows of a table of floors and parts of rows, as the recogniser judges them. Every rule is the content's own (Valid, Carried; crates/rules): a row is that
-- of a content that meets every rule, and a part of a row is judged as that part of the least content that has it.
use Rattle.std.specs.Prelude.{ℕ, ◌+◌, ◌^◌, Bool, true, List, [], ◌∷◌, ◌↔◌, ◌≡◌, get_or, take, replicate}
use Rattle.std.proofs.Math.Seq.{slice}
use Rattle.reading.specs.Pad.{pad}
use Rattle.reading.specs.Encoding.{Each, RowOf, Encodes}
use Rattle.rules.specs.Rules as Rule
use Rattle.floor.specs.Content.{Class, Floor}
use Rattle.floor.specs.Layout.{class_width, subclass_books_room, class_row, floor_width, partitions_place, classes_place, x_list_place, floor_row}
use Rattle.floor.specs.Inner.Valid.{ValidClass, ValidFloor}
use Rattle.floor.specs.Carried.{CarriedFloor}
use Rattle.floor.specs.Inner.Counts.{classes_to, values_to, Partitions}

-- ---- a class

-- the row of a class that meets every rule, where `books` codebooks are set up, lies from place `at` on
abbrev pub ValidClassRow : ℕ → List ℕ → ℕ → Type 0
ValidClassRow books t at = RowOf class_row (ValidClass books) (slice at (at + class_width) t)

-- the class of one dimension that has these subclass bits and this master book, and no subclass book
abbrev pub class_of_master : ℕ → ℕ → Class
class_of_master subclasses master = record { dimensions = 1; subclasses = subclasses; master = master; books = replicate (2 ^ subclasses) 0 }

-- the class of one dimension that has this subclass book alone
abbrev pub class_of_book : ℕ → Class
class_of_book book = record { dimensions = 1; subclasses = 0; master = 0; books = book ∷ [] }

-- `count` subclass books fill their places from the front, and zeros follow
pub record ValidBooks (books count : ℕ) (places : List ℕ) : Type 0 where
  pub valid : Each (λ b. ValidClass books (class_of_book b)) (take count places)
  pub holds : places ≡ pad subclass_books_room (take count places)

-- ---- a floor

-- the row of a floor that meets every rule lies from place `at` on
abbrev pub ValidFloorRow : ℕ → List ℕ → ℕ → Type 0
ValidFloorRow books t at = RowOf floor_row (ValidFloor books) (slice at (at + floor_width) t)

-- the places of its partitions, and of its classes
abbrev pub partition_places : List ℕ → ℕ → List ℕ
partition_places t at = slice (at + partitions_place) (at + classes_place) t

abbrev pub class_places : List ℕ → ℕ → List ℕ
class_places t at = slice (at + classes_place) (at + x_list_place) t

-- its partitions
abbrev pub ValidPartitions : List ℕ → ℕ → Type 0
ValidPartitions t at = Partitions (get_or t at 0) (partition_places t at)

-- its classes: as many as its partitions name
pub record ValidClasses (books : ℕ) (t : List ℕ) (at : ℕ) : Type 0 where
  pub count : get_or t (at + 1) 0 ≡ classes_to (partition_places t at) (get_or t at 0)
  pub classes : Encodes class_row (ValidClass books) (get_or t (at + 1) 0) (class_places t at)

-- how many X values its partitions have
abbrev pub values_at : List ℕ → ℕ → ℕ
values_at t at = values_to (class_places t at) (partition_places t at) (get_or t at 0)

-- its count of X values: the two implied ones, and those (12)
pub record ValidCount (t : List ℕ) (at : ℕ) : Type 0 where
  pub values : get_or t (at + 4) 0 ≡ 2 + values_at t at
  pub few : Rule.meets12 (Rule.explicit (values_at t at)) ≡ true

-- the floor without partitions that has this multiplier and these range bits
abbrev pub floor_of_ends : ℕ → ℕ → Floor
floor_of_ends multiplier rangebits = record { partitions = []; classes = []; multiplier = multiplier; rangebits = rangebits; xs = [] }

-- its multiplier, range bits and count of X values
pub record ValidHead (t : List ℕ) (at : ℕ) : Type 0 where
  pub carried : CarriedFloor (floor_of_ends (get_or t (at + 2) 0) (get_or t (at + 3) 0))
  pub count : ValidCount t at

-- an answer that says whether the row lies there, where its partitions and its classes do
abbrev pub DecidesRow : Bool → List ℕ → ℕ → Type 0
DecidesRow r t at = (books : ℕ) → ValidPartitions t at → ValidClasses books t at → ((r ≡ true) ↔ ValidFloorRow books t at)
