-- When four tables are the writing-out of codebooks that meet every rule (01, "What the reader takes and gives").
use Rattle.std.specs.Prelude.{ℕ, ◌≤◌, List, ◌≡◌, length}
use Rattle.reading.specs.Pad.{pad}
use Rattle.reading.specs.Encoding.{Zeros}
use Rattle.limits.specs.declared.Limits.{Limits}
use Rattle.book.specs.Content.{Book}
use Rattle.book.specs.Layout.{books_need}
use Rattle.book.specs.HeadReading.{totals}
use Rattle.book.specs.Rows.{book_rows, all_lengths, all_codewords, all_multiplicands, decode_books}
use Rattle.book.specs.Inner.Valid.{ValidBooks}

-- what a caller may ask about: few books, and limits that a place in a table can count up to
pub record Countable (limits : Limits) (count : ℕ) : Type 0 where
  pub few_books : count ≤ 256
  pub few_entries : limits.entries ≤ 16777216
  pub few_values : limits.multiplicands ≤ 16777216

-- `count` books fill the tables from their fronts, and zeros follow. The table of books has its fixed need, a row for each of 256 books
pub record BooksRecognised (limits : Limits) (count : ℕ) (books lengths codewords multiplicands : List ℕ) : Type 0 where
  pub books_room : books_need ≤ length books
  pub lengths_room : limits.entries ≤ length lengths
  pub codewords_room : limits.entries ≤ length codewords
  pub multiplicands_room : limits.multiplicands ≤ length multiplicands
  pub content : List Book
  pub counted : length content ≡ count
  pub valid : ValidBooks limits (totals 0 0) content
  pub book_rows_is : books ≡ pad (length books) (book_rows (totals 0 0) content)
  pub all_lengths_is : lengths ≡ pad (length lengths) (all_lengths content)
  pub all_codewords_is : codewords ≡ pad (length codewords) (all_codewords content)
  pub all_multiplicands_is : multiplicands ≡ pad (length multiplicands) (all_multiplicands content)

-- the content is decided by the tables: no two contents share them
pub record OneContent (limits : Limits) (count : ℕ) (books lengths codewords multiplicands : List ℕ) : Type 0 where
  pub decoded : (s : BooksRecognised limits count books lengths codewords multiplicands) → s.content ≡ decode_books count books lengths multiplicands

-- what is left of the tables behind books of so many entries and values: `count` more books, and zeros
pub record BooksLeft (limits : Limits) (count entries values : ℕ) (rows lengths codewords multiplicands : List ℕ) : Type 0 where
  pub content : List Book
  pub counted : length content ≡ count
  pub valid : ValidBooks limits (totals entries values) content
  pub book_rows_is : rows ≡ pad (length rows) (book_rows (totals entries values) content)
  pub all_lengths_is : lengths ≡ pad (length lengths) (all_lengths content)
  pub all_codewords_is : codewords ≡ pad (length codewords) (all_codewords content)
  pub all_multiplicands_is : multiplicands ≡ pad (length multiplicands) (all_multiplicands content)

-- nothing but zeros in what is left
pub record Clear (rs ls ws ms : List ℕ) : Type 0 where
  pub rows : Zeros rs
  pub lengths : Zeros ls
  pub codewords : Zeros ws
  pub multiplicands : Zeros ms
