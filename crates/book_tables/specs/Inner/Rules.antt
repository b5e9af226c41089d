-- One codebook as it is tested along the tables: the content that a row and the lists from its own lengths, codewords and multiplicands on hold. The rules
-- are the content's own (Carried, Rules and Valid of a book); what is said here beside them is how the content is written out.
use Rattle.std.specs.Prelude.{ℕ, ◌≤◌, true, List, [], ◌≡◌, length, get_or, take, replicate}
use Rattle.limits.specs.declared.Limits.{Limits}
use Rattle.rules.specs.Rules as Rule
use Rattle.codeword_assignment.specs.Book.{ledger_codewords}
use Rattle.book.specs.Content.{Book}
use Rattle.book.specs.Layout.{book_row}
use Rattle.book.specs.HeadReading.{totals}
use Rattle.book.specs.Carried.{NoLookup, SomeLookup, CarriedBook}
use Rattle.book.specs.Rules.{Rule6, Book14}
use Rattle.book.specs.Inner.Valid.{ValidBook}
use Rattle.book_tables.specs.declared.row.Row.{Row}

-- the row that begins a list
abbrev pub row_of : List ℕ → Row
row_of t =
    record {
      dimensions = get_or t 0 0;
      entries = get_or t 1 0;
      first_entry = get_or t 2 0;
      lookup = get_or t 3 0;
      minimum = get_or t 4 0;
      delta = get_or t 5 0;
      width = get_or t 6 0;
      sequence = get_or t 7 0;
      count = get_or t 8 0;
      first_value = get_or t 9 0;
      lone = get_or t 10 0;
    }

-- the book of a row, with its own lengths and multiplicands
abbrev pub book_of : Row → List ℕ → List ℕ → Book
book_of row lengths multiplicands =
    record {
      dimensions = row.dimensions;
      lengths = lengths;
      lookup = row.lookup;
      minimum = row.minimum;
      delta = row.delta;
      width = row.width;
      sequence = row.sequence;
      multiplicands = multiplicands;
    }

-- the book that the tables hold: its own lengths and multiplicands at the front of what is left of theirs
abbrev pub book_in : Row → List ℕ → List ℕ → Book
book_in row lengths multiplicands = book_of row (take row.entries lengths) (take row.count multiplicands)

-- what a row alone says of its book: so many entries and multiplicands, each of them 0
abbrev pub row_book : Row → Book
row_book row = book_of row (replicate row.entries 0) (replicate row.count 0)

-- the same of the dimensions and the entries, with no lookup
abbrev pub head_book : Row → Book
head_book r =
    record { dimensions = r.dimensions; lengths = replicate r.entries 0; lookup = 0; minimum = 0; delta = 0; width = 0; sequence = 0; multiplicands = [] }

-- the fields before the lengths (002; 01, refusals 6 and 14); entries is how many the books before have
pub record HeadRules (limits : Limits) (entries : ℕ) (row : Row) : Type 0 where
  pub carried : CarriedBook (head_book row)
  pub rule6 : Rule6 (head_book row)
  pub rule14 : Book14 limits (head_book row)
  pub entries_all : Rule.meets14 (Rule.all_entries limits.entries entries row.entries) ≡ true

-- its own entries and multiplicands begin where those of the books before end, and all multiplicands are within the limit (01, refusal 14)
pub record PlaceRules (limits : Limits) (entries values : ℕ) (row : Row) : Type 0 where
  pub entries_first : row.first_entry ≡ entries
  pub values_first : row.first_value ≡ values
  pub values_all : Rule.meets14 (Rule.multiplicands limits.multiplicands values row.count) ≡ true

-- the lookup by its type (002; 01, refusal 6)
pub record LookupRules (row : Row) : Type 0 where
  pub known : Rule.meets6 (Rule.lookup_type row.lookup) ≡ true
  pub none : row.lookup ≡ 0 → NoLookup (row_book row)
  pub some : (row.lookup ≡ 0 → ⊥) → SomeLookup (row_book row)

-- the book that the tables hold meets every rule, and its row and its codewords are those that are written out for it
pub record BookRules (limits : Limits) (entries values : ℕ) (row : Row) (lengths codewords multiplicands : List ℕ) : Type 0 where
  pub valid : ValidBook limits (totals entries values) (book_in row lengths multiplicands)
  pub written : row ≡ row_of (book_row entries values (book_in row lengths multiplicands))
  pub assigned : take row.entries codewords ≡ ledger_codewords (take row.entries lengths)

-- what is known where a book is judged: those before it are within the limits, and the tables have room for what the limits allow
pub record Begun (limits : Limits) (entries values : ℕ) (lengths codewords multiplicands : List ℕ) : Type 0 where
  pub entries_within : entries ≤ limits.entries
  pub values_within : values ≤ limits.multiplicands
  pub lengths_room : limits.entries ≤ length lengths
  pub codewords_room : limits.entries ≤ length codewords
  pub values_room : limits.multiplicands ≤ length multiplicands
