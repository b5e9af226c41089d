-- The loop over the books and the whole test, as the code asks them. Assumes nothing.
use Prim.Native.Nat.{ℕ, suc, ◌+◌, ◌-◌, ◌*◌, ◌≤◌, ◌<◌}
use native.Mathlib.Nat.{sub-zero}
use native.Mathlib.Omega.{arith}
use mathlib.Core.Bool.{Bool, true, false, not}
use mathlib.Core.List.{List}
use mathlib.Core.Logic.{◌↔◌}
use mathlib.Core.Path.{◌≡◌, subst}
use lib.ListN.{drop, length-drop}
use lib.Seq.{drop-drop}
use Rattle.reading.proofs.Encodes.{iff_false, refuted, shown}
use Rattle.limits.specs.declared.Limits.{Limits}
use Rattle.book.specs.Layout.{book_width}
use Rattle.book.specs.Inner.BookBuffers.{BookBuffers}
use Rattle.book_tables.specs.declared.row.Row.{Row}
use Rattle.book_tables.specs.Inner.Rules.{row_of, BookRules, Begun}
use Rattle.book_tables.specs.Inner.Recognised.{Countable, BooksLeft, Clear}
use Rattle.book_tables.proofs.Written.{entries_within, values_within}
use Rattle.book_tables.proofs.BooksLeftLaws.{Room, left_none, left_first, left_cons}

-- what is left of the tables behind i books of so many entries and values
abbrev Left : Limits → ℕ → ℕ → ℕ → List ℕ → List ℕ → List ℕ → List ℕ → ℕ → Type 0
Left limits n entries values books lengths codewords multiplicands i =
    BooksLeft limits n entries values (drop (book_width * i) books) (drop entries lengths) (drop entries codewords) (drop values multiplicands)

-- i books are found right, so that all depends on the others
pub record Progress (limits : Limits) (count : ℕ) (books lengths codewords multiplicands : List ℕ) (entries values i : ℕ) : Type 0 where
  pub within : i ≤ count
  pub begun : Begun limits entries values lengths codewords multiplicands
  pub left : BooksLeft limits count 0 0 books lengths codewords multiplicands ↔ Left limits (count - i) entries values books lengths codewords multiplicands i

module _ (limits : Limits) (count : ℕ) (books lengths codewords multiplicands : List ℕ) (buffers : BookBuffers limits books lengths codewords multiplicands) where
  pub progress_start : Progress limits count books lengths codewords multiplicands 0 0 0
  progress_start =
      record {
        within = omega arith;
        begun = record {
          entries_within = omega arith;
          values_within = omega arith;
          lengths_room = buffers.lengths_long;
          codewords_room = buffers.codewords_long;
          values_room = buffers.multiplicands_long;
        };
        left = rw sub-zero ((λ s. s), (λ s. s));
      }

  module _ (countable : Countable limits count) (entries values i : ℕ) (w : Progress limits count books lengths codewords multiplicands entries values i) where
    module _ (h : i < count) where
      room : Room limits (suc (count - (i + 1))) entries values (drop (book_width * i) books) (drop entries lengths) (drop entries codewords) (drop values multiplicands)
      room =
          let few = countable.few_books in
          let a = buffers.books_long in
          let b = buffers.lengths_long in
          let c = buffers.codewords_long in
          let d = buffers.multiplicands_long in
          let e = length-drop (book_width * i) books in
          let f = length-drop entries lengths in
          let g = length-drop entries codewords in
          let k = length-drop values multiplicands in
          record { rows_room = omega arith; lengths_room = omega arith; codewords_room = omega arith; values_room = omega arith }

      one_left : BooksLeft limits count 0 0 books lengths codewords multiplicands ↔ Left limits (suc (count - (i + 1))) entries values books lengths codewords multiplicands i
      one_left = let n : count - i ≡ suc (count - (i + 1)) = omega arith in rw n at w.left

      module _ {row : Row} (e : row ≡ row_of (drop (book_width * i) books)) {b : Bool}
          (p : (b ≡ true) ↔ BookRules limits entries values row (drop entries lengths) (drop entries codewords) (drop values multiplicands)) where
        pub progress_stop : not b ≡ true → (false ≡ true) ↔ BooksLeft limits count 0 0 books lengths codewords multiplicands
        progress_stop n = iff_false (λ s. refuted p n (left_first limits (count - (i + 1)) entries values _ _ _ _ room row e (one_left.0 s)).0)

        after : BooksLeft limits (count - (i + 1)) (entries + row.entries) (values + row.count) (drop book_width (drop (book_width * i) books)) (drop row.entries (drop entries lengths)) (drop row.entries (drop entries codewords)) (drop row.count (drop values multiplicands))
            ≡ Left limits (count - (i + 1)) (entries + row.entries) (values + row.count) books lengths codewords multiplicands (i + 1)
        after =
            let t : book_width * (i + 1) ≡ book_width * i + book_width = omega arith in
            rw (t, drop-drop book_width (book_width * i) books, drop-drop row.entries entries lengths, drop-drop row.entries entries codewords, drop-drop row.count values multiplicands)

        pub progress_next : not b ≡ false → Progress limits count books lengths codewords multiplicands (entries + row.entries) (values + row.count) (i + 1)
        progress_next n =
            record {
              within = omega arith;
              begun = record {
                entries_within = entries_within limits entries values row _ _ _ (shown p n);
                values_within = values_within limits entries values row _ _ _ (shown p n);
                lengths_room = buffers.lengths_long;
                codewords_room = buffers.codewords_long;
                values_room = buffers.multiplicands_long;
              };
              left =
                  subst (λ (x : Type 0). BooksLeft limits count 0 0 books lengths codewords multiplicands ↔ x) after (
                    (λ s. (left_first limits (count - (i + 1)) entries values _ _ _ _ room row e (one_left.0 s)).1),
                    (λ s. one_left.1 (left_cons limits (count - (i + 1)) entries values _ _ _ _ room row e (shown p n) s)),
                  );
            }

    pub progress_end : count ≤ i → {r : Bool} → (r ≡ true) ↔ Clear (drop (book_width * count) books) (drop entries lengths) (drop entries codewords) (drop values multiplicands)
        → (r ≡ true) ↔ BooksLeft limits count 0 0 books lengths codewords multiplicands
    progress_end h {r} p =
        let within = w.within in
        let e : count ≡ i = omega arith in
        let k : count - i ≡ 0 = omega arith in
        let l : BooksLeft limits count 0 0 books lengths codewords multiplicands ↔ Left limits 0 entries values books lengths codewords multiplicands i = rw k at w.left in
        let q : (r ≡ true) ↔ Clear (drop (book_width * i) books) (drop entries lengths) (drop entries codewords) (drop values multiplicands) = rw (← e) p in
        let z = left_none limits entries values (drop (book_width * i) books) (drop entries lengths) (drop entries codewords) (drop values multiplicands) in
        ((λ t. l.1 (z.1 (q.0 t))), (λ s. q.1 (z.0 (l.0 s))))

-- the totals stay small
module _ (limits : Limits) (count entries values : ℕ) (row : Row) (ls ws ms : List ℕ) (countable : Countable limits count) {b : Bool}
    (p : (b ≡ true) ↔ BookRules limits entries values row ls ws ms) (n : not b ≡ false) where
  pub entries_fit : entries + row.entries < 4294967296
  entries_fit = let h = entries_within limits entries values row ls ws ms (shown p n) in let a = countable.few_entries in omega arith

  pub values_fit : values + row.count < 4294967296
  values_fit = let h = values_within limits entries values row ls ws ms (shown p n) in let a = countable.few_values in omega arith
