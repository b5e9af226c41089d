-- ALL BOOKS: tables that hold one book more are that book, written, and tables that hold the others; so the test of what is left decides the whole.
-- And the tables decide the books. Assumes nothing.
use Prim.Native.Nat.{ℕ, zero, suc, ◌+◌, ◌-◌, ◌*◌, ◌≤◌}
use native.Mathlib.Omega.{arith}
use mathlib.Core.List.{List, [], ◌∷◌, ◌++◌}
use mathlib.Core.Logic.{◌↔◌}
use mathlib.Core.Path.{◌≡◌, refl, sym, ap, subst, ◌∙◌}
use lib.ListN.{length, get_or, take, drop, length-drop, take-append-drop}
use lib.Seq.{take-suc, take_at, drop_at}
use Rattle.reading.specs.Pad.{pad}
use Rattle.reading.specs.Lists.{rows}
use Rattle.reading.specs.Tabulate.{tabulate}
use Rattle.reading.proofs.Pads.{pad_nil}
use Rattle.reading.proofs.Encodes.{pad_append}
use Rattle.limits.specs.declared.Limits.{Limits}
use Rattle.codeword_assignment.specs.Book.{ledger_codewords}
use Rattle.codeword_assignment.proofs.Laws.{codewords_length}
use Rattle.book.specs.Content.{Book}
use Rattle.book.specs.Layout.{book_width, book_row}
use Rattle.book.specs.HeadReading.{totals}
use Rattle.book.specs.Reading.{and_this}
use Rattle.book.specs.Rows.{book_rows, all_lengths, all_codewords, all_multiplicands, decode_books}
use Rattle.book.specs.Inner.Valid.{ValidBook, ValidBooks}
use Rattle.book.proofs.BooksStored.{row_length, within_entries, within_values, decode_books_lem}
use Rattle.book_tables.specs.declared.row.Row.{Row}
use Rattle.book_tables.specs.Inner.Rules.{row_of, book_of, book_in, BookRules}
use Rattle.book_tables.specs.Inner.Recognised.{Countable, BooksLeft, Clear, OneContent}
use Rattle.book_tables.proofs.Written.{entries_counted, values_counted, entries_within, values_within}

-- a buffer that is filled from the front: its first part, and what is left
front : (t xs ys : List ℕ) → length xs ≤ length t → t ≡ pad (length t) (xs ++ ys) → t ≡ xs ++ pad (length t - length xs) ys
front t xs ys h e =
    let n : length t ≡ length xs + (length t - length xs) = omega arith in
    e ∙ ap (λ (m : ℕ). pad m (xs ++ ys)) n ∙ pad_append xs ys (length t - length xs)

taken : (k : ℕ) (t xs ys : List ℕ) → length xs ≡ k → k ≤ length t → t ≡ pad (length t) (xs ++ ys) → take k t ≡ xs
taken k t xs ys l h e = ap (take k) (front t xs ys (omega arith) e) ∙ take_at xs (pad (length t - length xs) ys) k l

left : (k : ℕ) (t xs ys : List ℕ) → length xs ≡ k → k ≤ length t → t ≡ pad (length t) (xs ++ ys) → drop k t ≡ pad (length (drop k t)) ys
left k t xs ys l h e =
    let d = length-drop k t in
    let m : length t - length xs ≡ length (drop k t) = omega arith in
    ap (drop k) (front t xs ys (omega arith) e) ∙ drop_at xs (pad (length t - length xs) ys) k l ∙ ap (λ (x : ℕ). pad x ys) m

join : (k : ℕ) (t xs ys : List ℕ) → length xs ≡ k → k ≤ length t → take k t ≡ xs → drop k t ≡ pad (length (drop k t)) ys → t ≡ pad (length t) (xs ++ ys)
join k t xs ys l h e f =
    let d = length-drop k t in
    let m : length xs + length (drop k t) ≡ length t = omega arith in
    sym (take-append-drop k t) ∙ (λ j. e j ++ f j) ∙ sym (pad_append xs ys (length (drop k t))) ∙ ap (λ (x : ℕ). pad x (xs ++ ys)) m

-- the front of a list is its numbers one after the other; so where a row is that of a book, the book's numbers stand there
front_numbers : (n : ℕ) (t : List ℕ) → n ≤ length t → take n t ≡ tabulate (λ i. get_or t i 0) n
unfolding tabulate
front_numbers zero t h = refl
front_numbers (suc n) t h = take-suc t n 0 (omega arith) ∙ ap (λ (l : List ℕ). l ++ (get_or t n 0 ∷ [])) (front_numbers n t (omega arith))

abbrev numbers : Row → List ℕ
numbers r =
    r.dimensions ∷ r.entries ∷ r.first_entry ∷ r.lookup ∷ r.minimum ∷ r.delta ∷ r.width ∷ r.sequence ∷ r.count ∷ r.first_value ∷ r.lone ∷ []

row_front : (entries values : ℕ) (b : Book) (t : List ℕ) → book_width ≤ length t → row_of t ≡ row_of (book_row entries values b) → take book_width t ≡ book_row entries values b
unfolding tabulate book_row
row_front entries values b t h e = front_numbers book_width t h ∙ ap numbers e

-- what is left of the tables has room for the books that are left, and for what the limits allow
pub record Room (limits : Limits) (n entries values : ℕ) (rs ls ws ms : List ℕ) : Type 0 where
  pub rows_room : book_width * n ≤ length rs
  pub lengths_room : limits.entries ≤ entries + length ls
  pub codewords_room : limits.entries ≤ entries + length ws
  pub values_room : limits.multiplicands ≤ values + length ms

-- behind a book
abbrev After : Limits → ℕ → ℕ → ℕ → Row → List ℕ → List ℕ → List ℕ → List ℕ → Type 0
After limits n entries values row rs ls ws ms =
    BooksLeft limits n (entries + row.entries) (values + row.count) (drop book_width rs) (drop row.entries ls) (drop row.entries ws) (drop row.count ms)

-- no book: zeros alone
pub left_none : (limits : Limits) (entries values : ℕ) (rs ls ws ms : List ℕ) → BooksLeft limits 0 entries values rs ls ws ms ↔ Clear rs ls ws ms
unfolding book_rows rows ValidBooks
left_none limits entries values rs ls ws ms = (
  (λ h. go h.content h.counted h.book_rows_is h.all_lengths_is h.all_codewords_is h.all_multiplicands_is),
  (λ z.
      record {
        content = [];
        counted = refl;
        valid = tt;
        book_rows_is = z.rows ∙ sym (pad_nil (length rs));
        all_lengths_is = z.lengths ∙ sym (pad_nil (length ls));
        all_codewords_is = z.codewords ∙ sym (pad_nil (length ws));
        all_multiplicands_is = z.multiplicands ∙ sym (pad_nil (length ms));
      }),
)
  where
    go : (bs : List Book) → length bs ≡ 0 → rs ≡ pad (length rs) (book_rows (totals entries values) bs) → ls ≡ pad (length ls) (all_lengths bs)
        → ws ≡ pad (length ws) (all_codewords bs) → ms ≡ pad (length ms) (all_multiplicands bs) → Clear rs ls ws ms
    go [] n e f g h = record { rows = e ∙ pad_nil (length rs); lengths = f ∙ pad_nil (length ls); codewords = g ∙ pad_nil (length ws); multiplicands = h ∙ pad_nil (length ms) }
    go (b ∷ bs) n e f g h = absurd (omega arith)

module _ (limits : Limits) (n entries values : ℕ) (rs ls ws ms : List ℕ) (room : Room limits (suc n) entries values rs ls ws ms) (row : Row) (begins : row ≡ row_of rs) where
  -- one book more: it meets the rules, and the others are held behind it
  pub left_first : BooksLeft limits (suc n) entries values rs ls ws ms → BookRules limits entries values row ls ws ms × After limits n entries values row rs ls ws ms
  unfolding book_rows book_row rows ValidBooks
  left_first books = go books.content books.counted books.valid books.book_rows_is books.all_lengths_is books.all_codewords_is books.all_multiplicands_is
    where
      go : (bs : List Book) → length bs ≡ suc n → ValidBooks limits (totals entries values) bs → rs ≡ pad (length rs) (book_rows (totals entries values) bs)
          → ls ≡ pad (length ls) (all_lengths bs) → ws ≡ pad (length ws) (all_codewords bs) → ms ≡ pad (length ms) (all_multiplicands bs)
          → BookRules limits entries values row ls ws ms × After limits n entries values row rs ls ws ms
      go [] k v e f g h = absurd (omega arith)
      go (b ∷ bs) k v e f g h =
          let within = v.0.entries_all in
          let values_within = v.0.values_all in
          let r₁ = room.rows_room in
          let r₂ = room.lengths_room in
          let r₃ = room.codewords_room in
          let r₄ = room.values_room in
          let l₁ = row_length entries values b in
          let l₃ = codewords_length b.lengths in
          let first : row ≡ row_of (book_row entries values b) = begins ∙ ap row_of (front rs (book_row entries values b) _ (omega arith) e) in
          let l = taken (length b.lengths) ls b.lengths _ refl (omega arith) f in
          let w = taken (length b.lengths) ws (ledger_codewords b.lengths) _ l₃ (omega arith) g in
          let m = taken (length b.multiplicands) ms b.multiplicands _ refl (omega arith) h in
          let same : b ≡ book_in (row_of (book_row entries values b)) ls ms = λ j. book_of (row_of (book_row entries values b)) (sym l j) (sym m j) in
          subst (λ (x : Row). BookRules limits entries values x ls ws ms × After limits n entries values x rs ls ws ms) (sym first) (
            record {
              valid = subst (ValidBook limits (totals entries values)) same v.0;
              written = ap (λ (x : Book). row_of (book_row entries values x)) same;
              assigned = w ∙ ap ledger_codewords (sym l);
            },
            record {
              content = bs;
              counted = omega arith;
              valid = v.1;
              book_rows_is = left book_width rs (book_row entries values b) _ l₁ (omega arith) e;
              all_lengths_is = left (length b.lengths) ls b.lengths _ refl (omega arith) f;
              all_codewords_is = left (length b.lengths) ws (ledger_codewords b.lengths) _ l₃ (omega arith) g;
              all_multiplicands_is = left (length b.multiplicands) ms b.multiplicands _ refl (omega arith) h;
            },
          )

  pub left_cons : BookRules limits entries values row ls ws ms → After limits n entries values row rs ls ws ms → BooksLeft limits (suc n) entries values rs ls ws ms
  unfolding book_rows rows ValidBooks
  left_cons r others =
      let b = book_in row ls ms in
      let r₁ = room.rows_room in
      let r₂ = room.lengths_room in
      let r₃ = room.codewords_room in
      let r₄ = room.values_room in
      let within = entries_within limits entries values row ls ws ms r in
      let within-too = values_within limits entries values row ls ws ms r in
      let l₁ : length b.lengths ≡ row.entries = sym (entries_counted limits entries values row ls ws ms r) in
      let l₂ : length b.multiplicands ≡ row.count = sym (values_counted limits entries values row ls ws ms r) in
      let l₃ : length (ledger_codewords b.lengths) ≡ row.entries = codewords_length b.lengths ∙ l₁ in
      let rest : book_rows (totals (entries + row.entries) (values + row.count)) others.content ≡ book_rows (and_this (totals entries values) b) others.content = rw (l₁, l₂) in
      record {
        content = b ∷ others.content;
        counted = ap suc others.counted;
        valid = (r.valid, rw (l₁, l₂) others.valid);
        book_rows_is =
            join book_width rs (book_row entries values b) _ (row_length entries values b) (omega arith) (row_front entries values b rs (omega arith) (sym begins ∙ r.written))
            (others.book_rows_is ∙ ap (pad (length (drop book_width rs))) rest);
        all_lengths_is = join row.entries ls b.lengths (all_lengths others.content) l₁ (omega arith) refl others.all_lengths_is;
        all_codewords_is = join row.entries ws (ledger_codewords b.lengths) (all_codewords others.content) l₃ (omega arith) r.assigned others.all_codewords_is;
        all_multiplicands_is = join row.count ms b.multiplicands (all_multiplicands others.content) l₂ (omega arith) refl others.all_multiplicands_is;
      }

-- ONE CONTENT for one writing-out
pub one_content : (limits : Limits) (count : ℕ) (books lengths codewords multiplicands : List ℕ) → Countable limits count → OneContent limits count books lengths codewords multiplicands
one_content limits count books lengths codewords multiplicands countable =
    record {
      decoded = λ s.
          let few = countable.few_books in
          let a = s.books_room in
          let b = s.lengths_room in
          let c = s.multiplicands_room in
          let n = s.counted in
          let e = within_entries limits (totals 0 0) s.content (omega arith) s.valid in
          let v = within_values limits (totals 0 0) s.content (omega arith) s.valid in
          sym
          ((λ j. decode_books (sym n j) (s.book_rows_is j) (s.all_lengths_is j) (s.all_multiplicands_is j))
          ∙ decode_books_lem (length books) (length lengths) (length multiplicands) s.content (omega arith) (omega arith) (omega arith));
    }
