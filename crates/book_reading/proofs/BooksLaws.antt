-- The loop over books: what is left to read, written into the tables as they are, is the whole. Assumes nothing.
use Prim.Native.Nat.{ℕ, zero, suc, ◌+◌, ◌-◌, ◌≤◌, ◌<◌}
use native.Mathlib.Nat.{sub-zero}
use native.Mathlib.Omega.{arith}
use mathlib.Core.List.{List, ◌∷◌}
use mathlib.Core.Path.{◌≡◌, refl, sym, ap, ◌∙◌}
use lib.ListN.{length}
use Rattle.reading.specs.Outcome.{Outcome, ok, bad, then}
use Rattle.reading.specs.Outcome as O
use Rattle.reading.specs.Reader.{mapped, puts, into, into1}
use Rattle.reading.proofs.Readers.{mapped_bad, mapped_ok}
use Rattle.bits.specs.declared.Cursor.{Cursor}
use Rattle.bits.specs.Inner.Cursors.{position}
use Rattle.limits.specs.declared.Limits.{Limits}
use Rattle.book.specs.Content.{Book}
use Rattle.book.specs.HeadReading.{totals}
use Rattle.book.specs.Reading.{and_this, book, books}
use Rattle.book.specs.Inner.Parts.{section}
use Rattle.book.specs.Inner.Layout.{Tables, tables, put_book}
use Rattle.book.specs.Inner.BookBuffers.{BookBuffers}

into_cons : (b : Book) (o : Outcome (List Book × ℕ)) (t : Tables) → into put_book (then o (λ y. ok (b ∷ y.0, y.1))) t ≡ into put_book o (put_book b t)
unfolding into mapped puts
into_cons b (ok y) t = refl
into_cons b (bad z) t = refl

-- the ways out of `books`, for tables that hold the books before
module _ (l : Limits) (s : List ℕ) (t : Tables) where
  pub books_none : (n : ℕ) {k : ℕ} → n ≡ 0 → into put_book (books l t.before n s k) t ≡ ok (t, k)
  unfolding books into mapped puts
  books_none n e = rw e

  pub books-bad : (n : ℕ) (k : ℕ) {z : _} → 0 < n → book l t.before s k ≡ bad z → into put_book (books l t.before n s k) t ≡ bad z
  unfolding books into mapped
  books-bad zero k h e = absurd (omega arith)
  books-bad (suc n) k h e = rw e

  pub books_more : (n m : ℕ) (k : ℕ) {b : Book} {j : ℕ} → n ≡ suc m → book l t.before s k ≡ ok (b, j)
      → into put_book (books l t.before n s k) t ≡ into put_book (books l (put_book b t).before m s j) (put_book b t)
  unfolding books put_book
  books_more n m k {b} {j} q e = rw (q, e) (into_cons b (books l (and_this t.before b) m s j) t)

module _ (l : Limits) (s : List ℕ) (n k : ℕ) (bk₀ lens₀ wds₀ m₀ : List ℕ) where
  abbrev whole : Outcome (Tables × ℕ)
  whole = into put_book (section l n s k) (tables bk₀ lens₀ wds₀ m₀ 0 0 0)

  -- index books are in the tables
  pub record BooksRead (c : Cursor) (bk lens wds m : List ℕ) (index entries values : ℕ) : Type 0 where
    pub within : index ≤ n
    pub bk_long : length bk ≡ length bk₀
    pub lens_long : length lens ≡ length lens₀
    pub wds_long : length wds ≡ length wds₀
    pub m_long : length m ≡ length m₀
    pub entries_within : entries ≤ l.entries
    pub values_within : values ≤ l.multiplicands
    pub rest : into put_book (books l (totals entries values) (n - index) s (position c)) (tables bk lens wds m index entries values) ≡ whole

  module _ {c : Cursor} {bk lens wds m : List ℕ} {index entries values : ℕ} (w : BooksRead c bk lens wds m index entries values) where
    abbrev here : Tables
    here = tables bk lens wds m index entries values

    pub books_buffers : BookBuffers l bk₀ lens₀ wds₀ m₀ → BookBuffers l bk lens wds m
    books_buffers buffers =
        record {
          books_long = omega arith;
          lengths_long = omega arith;
          codewords_long = omega arith;
          multiplicands_long = omega arith;
          few_entries = buffers.few_entries;
          few_values = buffers.few_values;
        }

    pub books_done : n ≤ index → whole ≡ ok (tables bk lens wds m n entries values, position c)
    books_done h =
        let i = w.within in
        let e : index ≡ n = omega arith in
        sym w.rest ∙ books_none l s here (n - index) (omega arith) ∙ ap (λ (x : ℕ). ok (tables bk lens wds m x entries values, position c)) e

    module _ (h : index < n) where
      pub books_refused : {z : O.Refusal} → into1 put_book (book l (totals entries values) s (position c)) here ≡ bad z → whole ≡ bad z
      unfolding into1
      books_refused one =
          sym w.rest
          ∙ books-bad l s here (n - index) (position c) (omega arith)
          (mapped_bad (λ b. put_book b here) (book l (totals entries values) s (position c)) one)

      module _ (c' : Cursor) {bk' lens' wds' m' : List ℕ} {entries' values' : ℕ}
          (one : into1 put_book (book l (totals entries values) s (position c)) here ≡ ok (tables bk' lens' wds' m' (index + 1) entries' values', position c')) where
        abbrev there : Tables
        there = tables bk' lens' wds' m' (index + 1) entries' values'

        books_rest : into put_book (books l there.before (n - (index + 1)) s (position c')) there ≡ whole
        unfolding into1
        books_rest =
            let a = mapped_ok (λ b. put_book b here) (book l (totals entries values) s (position c)) one in
            ap (λ (t : Tables). into put_book (books l t.before (n - (index + 1)) s (position c')) t) (sym a.2)
            ∙ sym (books_more l s here (n - index) (n - (index + 1)) (position c) (omega arith) a.1)
            ∙ w.rest

        pub books_next : length bk' ≡ length bk → length lens' ≡ length lens → length wds' ≡ length wds → length m' ≡ length m
            → (entries' ≤ l.entries) × (values' ≤ l.multiplicands) → BooksRead c' bk' lens' wds' m' (index + 1) entries' values'
        books_next e₁ e₂ e₃ e₄ f =
            record {
              within = omega arith;
              bk_long = e₁ ∙ w.bk_long;
              lens_long = e₂ ∙ w.lens_long;
              wds_long = e₃ ∙ w.wds_long;
              m_long = e₄ ∙ w.m_long;
              entries_within = f.0;
              values_within = f.1;
              rest = books_rest;
            }

pub books_start : (l : Limits) (s : List ℕ) (n : ℕ) (c : Cursor) (bk lens wds m : List ℕ) → BooksRead l s n (position c) bk lens wds m c bk lens wds m 0 0 0
books_start l s n c bk lens wds m =
    record {
      within = omega arith;
      bk_long = refl;
      lens_long = refl;
      wds_long = refl;
      m_long = refl;
      entries_within = omega arith;
      values_within = omega arith;
      rest = rw sub-zero;
    }
