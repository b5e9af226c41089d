-- What a section leaves in its tables, as a contract names them: slices, which a function was lent and has left.
use Rattle.std.specs.Prelude.{ℕ, List}
use Rattle.book.specs.Content.{Book}
use Rattle.floor.specs.Content.{Floor}
use Rattle.residue.specs.Content.{Residue}
use Rattle.mapping.specs.Content.{Mapping}
use Rattle.mode.specs.Content.{Mode}
use Rattle.setup.specs.Handed.{Slice}
use Rattle.setup.specs.Inner.Parts.{RowsStored, BooksStored, ResiduesStored, FloorsStored, MappingsStored, AfterBooksStored, RestStored}

-- n items with their rows in a table
module _ {A : Type 0} where
  abbrev pub RowsStoredIn : (A → List ℕ) → ℕ → Slice → List A → Type 0
  RowsStoredIn row n table = RowsStored row n table.entry.now table.exit.now

-- n books in their four tables
abbrev pub BooksStoredIn : ℕ → Slice → Slice → Slice → Slice → List Book → Type 0
BooksStoredIn n books lengths codewords multiplicands =
    BooksStored n
    books.entry.now books.exit.now
    lengths.entry.now lengths.exit.now
    codewords.entry.now codewords.exit.now
    multiplicands.entry.now multiplicands.exit.now

-- n residues in their two tables
abbrev pub ResiduesStoredIn : ℕ → Slice → Slice → List Residue → Type 0
ResiduesStoredIn n residues plans =
    ResiduesStored n
    residues.entry.now residues.exit.now
    plans.entry.now plans.exit.now

-- so many floors and residues in their tables
abbrev pub FloorsStoredIn : ℕ → ℕ → Slice → Slice → Slice → List Floor × List Residue → Type 0
FloorsStoredIn floor_count residue_count floors residues plans =
    FloorsStored floor_count residue_count
    floors.entry.now floors.exit.now
    residues.entry.now residues.exit.now
    plans.entry.now plans.exit.now

-- so many mappings and modes in their tables
abbrev pub MappingsStoredIn : ℕ → ℕ → Slice → Slice → List Mapping × List Mode → Type 0
MappingsStoredIn mapping_count mode_count mappings modes =
    MappingsStored mapping_count mode_count
    mappings.entry.now mappings.exit.now
    modes.entry.now modes.exit.now

-- all that follows the books, so many of each, in their tables
abbrev pub AfterBooksStoredIn : ℕ → ℕ → ℕ → ℕ → Slice → Slice → Slice → Slice → Slice → (List Floor × List Residue) × (List Mapping × List Mode) → Type 0
AfterBooksStoredIn floor_count residue_count mapping_count mode_count floors residues plans mappings modes =
    AfterBooksStored floor_count residue_count mapping_count mode_count
    floors.entry.now floors.exit.now
    residues.entry.now residues.exit.now
    plans.entry.now plans.exit.now
    mappings.entry.now mappings.exit.now
    modes.entry.now modes.exit.now

-- the same with the counts of all, behind so many books
abbrev pub RestStoredIn : ℕ → Slice → Slice → Slice → Slice → Slice → Slice → (List Floor × List Residue) × (List Mapping × List Mode) → Type 0
RestStoredIn book_count counts floors residues plans mappings modes =
    RestStored book_count
    counts.entry.now counts.exit.now
    floors.entry.now floors.exit.now
    residues.entry.now residues.exit.now
    plans.entry.now plans.exit.now
    mappings.entry.now mappings.exit.now
    modes.entry.now modes.exit.now
