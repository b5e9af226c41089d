-- The rows of the books in their table say of each book what the list of books says: a residue is judged against the one as against the other.
-- Assumes nothing.
use Prim.Native.Nat.{ℕ, ◌+◌, ◌*◌, ◌≤◌, ◌<◌}
use native.Mathlib.Omega.{arith}
use mathlib.Core.List.{List, [], map}
use mathlib.Core.Logic.{⊎_elim}
use mathlib.Core.Path.{◌≡◌, refl, sym, ap, ◌∙◌}
use lib.ListN.{length, get_or, take, get_or-eq_default, get_or-map}
use Rattle.reading.specs.Pad.{pad}
use Rattle.reading.proofs.Pads.{pad_get, length-pad}
use Rattle.reading.proofs.Least.{lt_or_le}
use Rattle.book.specs.Content.{Book}
use Rattle.book.specs.Layout.{book_width, book_row, number_at}
use Rattle.book.specs.HeadReading.{Before}
use Rattle.book.specs.Rows.{book_rows, and_these}
use Rattle.book.proofs.BooksStored.{rows_length, row_at}
use Rattle.residue.specs.Inner.FromTable.{books_of}
use Rattle.setup.specs.Content.{books_known}

abbrev none : Before
none = record { entries = 0; values = 0 }

-- what stands for a book past the last
abbrev pub no_book : Book
no_book = record { dimensions = 0; lengths = []; lookup = 0; minimum = 0; delta = 0; width = 0; sequence = 0; multiplicands = [] }

-- a number of book b's row that depends on the book alone
module _ (n : ℕ) (bs : List Book) (room : book_width * length bs ≤ n) (column : ℕ) (f : Book → ℕ) (low : column < book_width) (row : (e v : ℕ) (b : Book) → get_or (book_row e v b) column 0 ≡ f b) (empty : f no_book ≡ 0) where
  inside : (b : ℕ) → b < length bs → number_at (pad n (book_rows none bs)) b column ≡ f (get_or bs b no_book)
  inside b h =
      pad_get n (book_rows none bs) (book_width * b + column) (omega arith)
      ∙ row_at none bs b column no_book h low
      ∙ row (and_these none (take b bs)).entries (and_these none (take b bs)).values (get_or bs b no_book)

  outside : (b : ℕ) → length bs ≤ b → number_at (pad n (book_rows none bs)) b column ≡ 0
  outside b h =
      let l = rows_length none bs in
      ⊎_elim
      (λ (k : book_width * b + column < n). pad_get n (book_rows none bs) (book_width * b + column) k ∙ get_or-eq_default (book_rows none bs) 0 (omega arith))
      (λ (k : n ≤ book_width * b + column). let m = length-pad n (book_rows none bs) in get_or-eq_default (pad n (book_rows none bs)) 0 (omega arith))
      (lt_or_le (book_width * b + column) n)

  pub column_is : (b : ℕ) → number_at (pad n (book_rows none bs)) b column ≡ get_or (map f bs) b 0
  column_is b =
      ⊎_elim
      (λ (h : b < length bs). inside b h ∙ listed b)
      (λ (h : length bs ≤ b). outside b h ∙ sym empty ∙ ap f (sym (get_or-eq_default bs no_book h)) ∙ listed b)
      (lt_or_le b (length bs))
    where
      listed : (b : ℕ) → f (get_or bs b no_book) ≡ get_or (map f bs) b 0
      listed b = sym (get_or-map f bs b no_book) ∙ ap (λ (d : ℕ). get_or (map f bs) b d) empty

-- THE LINK
pub books_link : (n count : ℕ) (bs : List Book) → count ≡ length bs → book_width * length bs ≤ n → books_of count (pad n (book_rows none bs)) ≡ books_known bs
unfolding books_known book_row
books_link n count bs e room =
    λ j.
    record {
      count = e j;
      dimensions = λ b. column_is n bs room 0 (λ x. x.dimensions) (omega arith) (λ e v x. refl) refl b j;
      entries = λ b. column_is n bs room 1 (λ x. length x.lengths) (omega arith) (λ e v x. refl) refl b j;
      lookup = λ b. column_is n bs room 3 (λ x. x.lookup) (omega arith) (λ e v x. refl) refl b j;
    }
