-- The four tables of a list of books: what each holds from its front on, zeros behind; and the books that tables hold. docs/TABLES.md draws them.
use Rattle.std.specs.Prelude.{ℕ, zero, suc, List, [], ◌∷◌, ◌++◌, get_or, take, drop}
use Rattle.reading.specs.Lists.{rows}
use Rattle.codeword_assignment.specs.Book.{ledger_codewords}
use Rattle.book.specs.Content.{Book}
use Rattle.book.specs.Layout.{book_width, book_row}
use Rattle.book.specs.HeadReading.{Before}
use Rattle.book.specs.Reading.{and_this}

-- a row for each book, with where its own entries and multiplicands begin
unfoldable pub book_rows : Before → List Book → List ℕ
book_rows before [] = []
book_rows before (b ∷ bs) = book_row before.entries before.values b ++ book_rows (and_this before b) bs

-- the lengths and the codewords of all entries, and all multiplicands
abbrev pub all_lengths : List Book → List ℕ
all_lengths = rows (λ b. b.lengths)

abbrev pub all_codewords : List Book → List ℕ
all_codewords = rows (λ b. ledger_codewords b.lengths)

abbrev pub all_multiplicands : List Book → List ℕ
all_multiplicands = rows (λ b. b.multiplicands)

-- how many entries and multiplicands the books have, with those before them
unfoldable pub and_these : Before → List Book → Before
and_these before [] = before
and_these before (b ∷ bs) = and_these (and_this before b) bs

-- the book of a row, its lengths and multiplicands taken from their tables
unfoldable pub decode_book : List ℕ → List ℕ → List ℕ → Book
decode_book row lengths multiplicands =
    record {
      dimensions = get_or row 0 0;
      lengths = take (get_or row 1 0) (drop (get_or row 2 0) lengths);
      lookup = get_or row 3 0;
      minimum = get_or row 4 0;
      delta = get_or row 5 0;
      width = get_or row 6 0;
      sequence = get_or row 7 0;
      multiplicands = take (get_or row 8 0) (drop (get_or row 9 0) multiplicands);
    }

-- the first n books of the tables
unfoldable pub decode_books : ℕ → List ℕ → List ℕ → List ℕ → List Book
decode_books zero books lengths multiplicands = []
decode_books (suc n) books lengths multiplicands = decode_book books lengths multiplicands ∷ decode_books n (drop book_width books) lengths multiplicands
