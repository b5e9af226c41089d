-- A book of a setup as it lies in the tables: its entries' lengths and codewords are a part of the tables of all books (docs/TABLES.md).
use Rattle.std.specs.Prelude.{ℕ, ◌+◌, ◌≤◌, List, ◌≡◌, length, take, drop}
use Rattle.codeword_assignment.specs.Book.{lone_mark}
use Rattle.book.specs.Layout.{dimensions_at, entries_at, first_entry_at, lone_at}
use Rattle.codeword.specs.Inner.Book.{Codebook}

-- book b's part of a table with a number for each entry of all books
abbrev pub entries_of : List ℕ → ℕ → List ℕ → List ℕ
entries_of books b cells = take (entries_at books b) (drop (first_entry_at books b) cells)

-- the entry lengths and the dimensions of each book by its number
unfoldable pub lengths_in : List ℕ → List ℕ → ℕ → List ℕ
lengths_in books lengths b = entries_of books b lengths

unfoldable pub dimensions_in : List ℕ → ℕ → ℕ
dimensions_in books b = dimensions_at books b

-- book b lies in the tables whole: lengths that were accepted, the ledger's codewords (01, "Bits and books"), and in its row its sole used entry
pub record BookStored (books lengths codewords : List ℕ) (b : ℕ) : Type 0 where
  pub lengths_fit : first_entry_at books b + entries_at books b ≤ length lengths
  pub codewords_fit : first_entry_at books b + entries_at books b ≤ length codewords
  pub book : Codebook (entries_of books b lengths) (entries_of books b codewords)
  pub lone : lone_at books b ≡ lone_mark (entries_of books b lengths)
