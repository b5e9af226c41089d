-- A codebook's row in the table of books: 11 numbers. docs/TABLES.md draws it.
use Rattle.std.specs.Prelude.{ℕ, ◌+◌, ◌*◌, List, [], ◌∷◌, length, get_or}
use Rattle.codeword_assignment.specs.Book.{lone_mark}
use Rattle.book.specs.Content.{Book}

-- how many numbers a row has, and the fixed need of the table: a row for each of 256 books
abbrev pub book_width : ℕ
book_width = 11

abbrev pub books_need : ℕ
books_need = 256 * book_width

-- entries and values are how many entries and multiplicands the books before it have: where its own begin. The last number follows from the lengths;
-- it is there so that no codeword has to search for it
unfoldable pub book_row : ℕ → ℕ → Book → List ℕ
book_row entries values b =
    b.dimensions
    ∷ length b.lengths
    ∷ entries
    ∷ b.lookup
    ∷ b.minimum
    ∷ b.delta
    ∷ b.width
    ∷ b.sequence
    ∷ length b.multiplicands
    ∷ values
    ∷ lone_mark b.lengths
    ∷ []

-- number j of book b's row in a table
abbrev pub number_at : List ℕ → ℕ → ℕ → ℕ
number_at t b j = get_or t (book_width * b + j) 0

abbrev pub dimensions_at : List ℕ → ℕ → ℕ
dimensions_at t b = number_at t b 0

abbrev pub entries_at : List ℕ → ℕ → ℕ
entries_at t b = number_at t b 1

abbrev pub first_entry_at : List ℕ → ℕ → ℕ
first_entry_at t b = number_at t b 2

abbrev pub lookup_at : List ℕ → ℕ → ℕ
lookup_at t b = number_at t b 3

abbrev pub lone_at : List ℕ → ℕ → ℕ
lone_at t b = number_at t b 10
