-- The tables of books that were put one after the other into cleared buffers; and back from the tables to the books. Assumes nothing.
use Prim.Native.Nat.{ℕ, zero, suc, ◌+◌, ◌-◌, ◌*◌, ◌≤◌, ◌<◌}
use native.Mathlib.Nat.{add-zero, zero-add, sub-zero}
use native.Mathlib.Omega.{arith}
use mathlib.Core.List.{List, [], ◌∷◌, ◌++◌, append-nil, append_assoc}
use mathlib.Core.Path.{◌≡◌, refl, sym, ap, ◌∙◌}
use lib.ListN.{length, get_or, take, drop, replicate, length-append, get_or-append}
use lib.Seq.{take_at, drop_at, get_or-append-add}
use Rattle.reading.specs.Pad.{pad}
use Rattle.reading.specs.Lists.{rows}
use Rattle.reading.specs.Reader.{puts}
use Rattle.reading.proofs.Pads.{pad_nil}
use Rattle.reading.proofs.Tables.{sets-pad}
use Rattle.limits.specs.declared.Limits.{Limits}
use Rattle.codeword_assignment.specs.Book.{ledger_codewords}
use Rattle.codeword_assignment.proofs.Laws.{codewords_length}
use Rattle.book.specs.Content.{Book}
use Rattle.book.specs.Layout.{book_width, book_row}
use Rattle.book.specs.HeadReading.{Before}
use Rattle.book.specs.Reading.{and_this}
use Rattle.book.specs.Inner.Layout.{Tables, tables, put_book}
use Rattle.book.specs.Rows.{book_rows, all_lengths, all_codewords, all_multiplicands, and_these, decode_book, decode_books}
use Rattle.book.specs.Inner.Valid.{ValidBooks}

pub row_length : (e v : ℕ) (b : Book) → length (book_row e v b) ≡ book_width
unfolding book_row
row_length e v b = refl

pub rows_length : (before : Before) (bs : List Book) → length (book_rows before bs) ≡ book_width * length bs
unfolding book_rows
rows_length before [] = refl
rows_length before (b ∷ bs) =
    let i = rows_length (and_this before b) bs in
    let r = row_length before.entries before.values b in
    length-append (book_row before.entries before.values b) (book_rows (and_this before b) bs) ∙ (omega arith)

-- what is written so far, with n₁ to n₄ places in the buffers
module _ (n₁ n₂ n₃ n₄ : ℕ) where
  abbrev stored_out : List ℕ → List ℕ → List ℕ → List ℕ → ℕ → Before → Tables
  stored_out r l w m count before = tables (pad n₁ r) (pad n₂ l) (pad n₃ w) (pad n₄ m) count before.entries before.values

  put_stored : (b : Book) (r l w m : List ℕ) (count : ℕ) (before : Before) → book_width * count ≡ length r → before.entries ≡ length l → before.entries ≡ length w → before.values ≡ length m
      → put_book b (stored_out r l w m count before)
      ≡ stored_out (r ++ book_row before.entries before.values b) (l ++ b.lengths) (w ++ ledger_codewords b.lengths) (m ++ b.multiplicands) (count + 1) (and_this before b)
  unfolding put_book
  put_stored b r l w m count before e₁ e₂ e₃ e₄ =
      λ j.
      tables (sets-pad n₁ (book_row before.entries before.values b) r (book_width * count) e₁ j)
      (sets-pad n₂ b.lengths l before.entries e₂ j)
      (sets-pad n₃ (ledger_codewords b.lengths) w before.entries e₃ j)
      (sets-pad n₄ b.multiplicands m before.values e₄ j)
      (count + 1)
      (before.entries + length b.lengths)
      (before.values + length b.multiplicands)

  puts_stored : (bs : List Book) (r l w m : List ℕ) (count : ℕ) (before : Before) → book_width * count ≡ length r → before.entries ≡ length l → before.entries ≡ length w → before.values ≡ length m
      → puts put_book bs (stored_out r l w m count before)
      ≡ stored_out (r ++ book_rows before bs) (l ++ all_lengths bs) (w ++ all_codewords bs) (m ++ all_multiplicands bs) (count + length bs) (and_these before bs)
  unfolding puts book_rows rows and_these
  puts_stored [] r l w m count before e₁ e₂ e₃ e₄ = rw (append-nil r, append-nil l, append-nil w, append-nil m, add-zero)
  puts_stored (b ∷ bs) r l w m count before e₁ e₂ e₃ e₄ =
      let row = book_row before.entries before.values b in
      let x : count + 1 + length bs ≡ count + suc (length bs) = omega arith in
      ap (puts put_book bs) (put_stored b r l w m count before e₁ e₂ e₃ e₄)
      ∙ puts_stored bs (r ++ row) (l ++ b.lengths) (w ++ ledger_codewords b.lengths) (m ++ b.multiplicands) (count + 1) (and_this before b)
      (sym (length-append r row ∙ (let i = row_length before.entries before.values b in omega arith)))
      (sym (length-append l b.lengths ∙ (omega arith)))
      (sym (length-append w (ledger_codewords b.lengths) ∙ (let i = codewords_length b.lengths in omega arith)))
      (sym (length-append m b.multiplicands ∙ (omega arith)))
      ∙ (λ j.
      stored_out (append_assoc r row (book_rows (and_this before b) bs) j)
      (append_assoc l b.lengths (all_lengths bs) j)
      (append_assoc w (ledger_codewords b.lengths) (all_codewords bs) j)
      (append_assoc m b.multiplicands (all_multiplicands bs) j)
      (x j)
      (and_these (and_this before b) bs))

  -- BOOKS PUT INTO CLEARED TABLES: each table is the padded list
  pub cleared_stored : (bs : List Book)
      → puts put_book bs (tables (replicate n₁ 0) (replicate n₂ 0) (replicate n₃ 0) (replicate n₄ 0) 0 0 0)
      ≡ tables (pad n₁ (book_rows (record { entries = 0; values = 0 }) bs)) (pad n₂ (all_lengths bs)) (pad n₃ (all_codewords bs)) (pad n₄ (all_multiplicands bs)) (length bs)
      (and_these (record { entries = 0; values = 0 }) bs).entries (and_these (record { entries = 0; values = 0 }) bs).values
  cleared_stored bs =
      (λ j. puts put_book bs (tables (sym (pad_nil n₁) j) (sym (pad_nil n₂) j) (sym (pad_nil n₃) j) (sym (pad_nil n₄) j) 0 0 0))
      ∙ puts_stored bs [] [] [] [] 0 (record { entries = 0; values = 0 }) refl refl refl refl
      ∙ ap (λ (x : ℕ). stored_out (book_rows (record { entries = 0; values = 0 }) bs) (all_lengths bs) (all_codewords bs) (all_multiplicands bs) x (and_these (record { entries = 0; values = 0 }) bs)) (zero-add (length bs))

-- how many entries and multiplicands there are
pub these_entries : (before : Before) (bs : List Book) → (and_these before bs).entries ≡ before.entries + length (all_lengths bs)
unfolding and_these rows
these_entries before [] = sym (add-zero _)
these_entries before (b ∷ bs) =
    let i = these_entries (and_this before b) bs in
    let l = length-append b.lengths (all_lengths bs) in
    omega arith

pub these_values : (before : Before) (bs : List Book) → (and_these before bs).values ≡ before.values + length (all_multiplicands bs)
unfolding and_these rows
these_values before [] = sym (add-zero _)
these_values before (b ∷ bs) =
    let i = these_values (and_this before b) bs in
    let l = length-append b.multiplicands (all_multiplicands bs) in
    omega arith

-- the entries and multiplicands of valid books are within the limits
pub within_entries : (limits : Limits) (before : Before) (bs : List Book) → before.entries ≤ limits.entries → ValidBooks limits before bs
    → before.entries + length (all_lengths bs) ≤ limits.entries
unfolding rows ValidBooks
within_entries limits before [] h v = omega arith
within_entries limits before (b ∷ bs) h v =
    let i = within_entries limits (and_this before b) bs v.0.entries_all v.1 in
    let l = length-append b.lengths (all_lengths bs) in
    omega arith

pub within_values : (limits : Limits) (before : Before) (bs : List Book) → before.values ≤ limits.multiplicands → ValidBooks limits before bs
    → before.values + length (all_multiplicands bs) ≤ limits.multiplicands
unfolding rows ValidBooks
within_values limits before [] h v = omega arith
within_values limits before (b ∷ bs) h v =
    let i = within_values limits (and_this before b) bs v.0.values_all v.1 in
    let l = length-append b.multiplicands (all_multiplicands bs) in
    omega arith

-- a list that fits stands in its buffer with zeros behind
pub pad_fits : (n : ℕ) (xs : List ℕ) → length xs ≤ n → pad n xs ≡ xs ++ replicate (n - length xs) 0
unfolding pad
pad_fits zero [] h = refl
pad_fits zero (x ∷ xs) h = absurd (omega arith)
pad_fits (suc n) [] h = pad_nil (suc n) ∙ ap (λ (x : ℕ). replicate x 0) (sym (sub-zero (suc n)))
pad_fits (suc n) (x ∷ xs) h =
    let e : suc n - suc (length xs) ≡ n - length xs = omega arith in
    rw e (ap (λ (l : List ℕ). x ∷ l) (pad_fits n xs (omega arith)))

-- a part between two others
middle : (a b c : List ℕ) (i n : ℕ) → i ≡ length a → n ≡ length b → take n (drop i (a ++ (b ++ c))) ≡ b
middle a b c i n e f = ap (take n) (drop_at a (b ++ c) i (sym e)) ∙ take_at b c n (sym f)

-- decoding books whose lengths and multiplicands stand behind those of the books before
decode_stored : (bs : List Book) (before : Before) (after l l' m m' : List ℕ) → before.entries ≡ length l → before.values ≡ length m
    → decode_books (length bs) (book_rows before bs ++ after) (l ++ (all_lengths bs ++ l')) (m ++ (all_multiplicands bs ++ m')) ≡ bs
unfolding decode_books book_rows rows decode_book book_row
decode_stored [] before after l l' m m' e f = refl
decode_stored (b ∷ bs) before after l l' m m' e f =
    let a : l ++ ((b.lengths ++ all_lengths bs) ++ l') ≡ l ++ (b.lengths ++ (all_lengths bs ++ l')) = ap (λ (x : List ℕ). l ++ x) (append_assoc b.lengths (all_lengths bs) l') in
    let c : m ++ ((b.multiplicands ++ all_multiplicands bs) ++ m') ≡ m ++ (b.multiplicands ++ (all_multiplicands bs ++ m'))
    = ap (λ (x : List ℕ). m ++ x) (append_assoc b.multiplicands (all_multiplicands bs) m') in
    let a₂ : l ++ (b.lengths ++ (all_lengths bs ++ l')) ≡ (l ++ b.lengths) ++ (all_lengths bs ++ l') = sym (append_assoc l b.lengths (all_lengths bs ++ l')) in
    let c₂ : m ++ (b.multiplicands ++ (all_multiplicands bs ++ m')) ≡ (m ++ b.multiplicands) ++ (all_multiplicands bs ++ m') = sym (append_assoc m b.multiplicands (all_multiplicands bs ++ m')) in
    let i = decode_stored bs (and_this before b) after (l ++ b.lengths) l' (m ++ b.multiplicands) m'
    (sym (length-append l b.lengths ∙ (omega arith))) (sym (length-append m b.multiplicands ∙ (omega arith))) in
    let p = middle l b.lengths (all_lengths bs ++ l') before.entries (length b.lengths) e refl in
    let q = middle m b.multiplicands (all_multiplicands bs ++ m') before.values (length b.multiplicands) f refl in
    rw (a, c)
    (λ j.
    record {
      dimensions = b.dimensions;
      lengths = p j;
      lookup = b.lookup;
      minimum = b.minimum;
      delta = b.delta;
      width = b.width;
      sequence = b.sequence;
      multiplicands = q j;
    } ∷ (ap (λ (x : List ℕ). decode_books (length bs) (book_rows (and_this before b) bs ++ after) x (m ++ (b.multiplicands ++ (all_multiplicands bs ++ m')))) a₂
    ∙ ap (λ (x : List ℕ). decode_books (length bs) (book_rows (and_this before b) bs ++ after) ((l ++ b.lengths) ++ (all_lengths bs ++ l')) x) c₂
    ∙ i) j)

-- ONE CONTENT FOR ONE WRITING-OUT: tables that have room give their books back
pub decode_books_lem : (n₁ n₂ n₄ : ℕ) (bs : List Book) → book_width * length bs ≤ n₁ → length (all_lengths bs) ≤ n₂ → length (all_multiplicands bs) ≤ n₄
    → decode_books (length bs) (pad n₁ (book_rows (record { entries = 0; values = 0 }) bs)) (pad n₂ (all_lengths bs)) (pad n₄ (all_multiplicands bs)) ≡ bs
decode_books_lem n₁ n₂ n₄ bs h₁ h₂ h₄ =
    let zeroes : Before = record { entries = 0; values = 0 } in
    let r = rows_length (record { entries = 0; values = 0 }) bs in
    rw (pad_fits n₁ (book_rows (record { entries = 0; values = 0 }) bs) (omega arith), pad_fits n₂ (all_lengths bs) h₂, pad_fits n₄ (all_multiplicands bs) h₄)
    (decode_stored bs (record { entries = 0; values = 0 }) (replicate (n₁ - length (book_rows (record { entries = 0; values = 0 }) bs)) 0) [] (replicate (n₂ - length (all_lengths bs)) 0) []
    (replicate (n₄ - length (all_multiplicands bs)) 0) refl refl)

-- a row's number in the table: row i is that of book i, with the totals before it
pub row_at : (before : Before) (bs : List Book) (i j : ℕ) (d : Book) → i < length bs → j < book_width
    → get_or (book_rows before bs) (book_width * i + j) 0 ≡ get_or (book_row (and_these before (take i bs)).entries (and_these before (take i bs)).values (get_or bs i d)) j 0
unfolding book_rows and_these
row_at before [] i j d h g = absurd (omega arith)
row_at before (b ∷ bs) zero j d h g =
    let r = row_length before.entries before.values b in
    let e : book_width * 0 + j ≡ j = omega arith in
    rw e (get_or-append (book_row before.entries before.values b) (book_rows (and_this before b) bs) 0 j (omega arith))
row_at before (b ∷ bs) (suc i) j d h g =
    let r = row_length before.entries before.values b in
    let e : book_width * suc i + j ≡ length (book_row before.entries before.values b) + (book_width * i + j) = omega arith in
    ap (λ (x : ℕ). get_or (book_row before.entries before.values b ++ book_rows (and_this before b) bs) x 0) e
    ∙ get_or-append-add (book_row before.entries before.values b) (book_rows (and_this before b) bs) (book_width * i + j) 0
    ∙ row_at (and_this before b) bs i j d (omega arith) g
