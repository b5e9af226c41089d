-- The four tables of books while they are filled: a row for each book, the lengths and codewords of all entries, all multiplicands.
-- docs/TABLES.md draws them.
use Rattle.std.specs.Prelude.{ℕ, ◌+◌, ◌*◌, List, [], ◌∷◌, ◌++◌, length}
use Rattle.std.proofs.lemmas.List.Edits.{sets}
use Rattle.codeword_assignment.specs.Book.{ledger_codewords}
use Rattle.book.specs.Content.{Book}
use Rattle.book.specs.Layout.{book_width, book_row}
use Rattle.book.specs.HeadReading.{Before}
use Rattle.book.specs.declared.Head.{Head}
use Rattle.book.specs.LookupReading.{Lookup}
use Rattle.book.specs.Inner.LookupParts.{lookup_numbers}
use Rattle.book.specs.Reading.{and_this}

pub record Tables : Type 0 where
  pub books : List ℕ
  pub lengths : List ℕ
  pub codewords : List ℕ
  pub multiplicands : List ℕ
  -- how many books, entries and multiplicands are in them
  pub count : ℕ
  pub before : Before

abbrev pub tables : List ℕ → List ℕ → List ℕ → List ℕ → ℕ → ℕ → ℕ → Tables
tables books lengths codewords multiplicands count entries values =
    record {
      books = books;
      lengths = lengths;
      codewords = codewords;
      multiplicands = multiplicands;
      count = count;
      before = record { entries = entries; values = values };
    }

unfoldable pub put_book : Book → Tables → Tables
put_book b t =
    record {
      books = sets t.books (book_width * t.count) (book_row t.before.entries t.before.values b);
      lengths = sets t.lengths t.before.entries b.lengths;
      codewords = sets t.codewords t.before.entries (ledger_codewords b.lengths);
      multiplicands = sets t.multiplicands t.before.values b.multiplicands;
      count = t.count + 1;
      before = and_this t.before b;
    }

-- a book's lookup laid out: the table of books with its row, the table with its multiplicands, and how many there are then. index is the book's number,
-- entries and values the totals before it, lone its mark
unfoldable pub finished : List ℕ → List ℕ → Head → ℕ → ℕ → ℕ → ℕ → Lookup → List ℕ × List ℕ × ℕ
finished books table h index entries values lone l = (
  sets books (book_width * index) (h.dimensions ∷ h.entries ∷ entries ∷ (lookup_numbers l ++ (values ∷ lone ∷ []))),
  sets table values l.multiplicands,
  values + length l.multiplicands,
)
