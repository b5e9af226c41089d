-- Laws of a packet's content in all tables, as the code asks them. Assumes nothing.
use Rattle.std.specs.Prelude.{Result, Ok, Err}
use Prim.Native.Nat.{ℕ, ◌≤◌}
use native.Mathlib.Omega.{arith}
use mathlib.Core.Bool.{true}
use mathlib.Core.List.{List, [], ◌∷◌}
use mathlib.Core.Path.{◌≡◌, ap, subst, ◌∙◌}
use lib.ListN.{length}
use Rattle.reading.specs.Pad.{pad}
use Rattle.bits.specs.declared.Cursor.{Cursor}
use Rattle.bits.specs.declared.refusal.Refusal.{Refusal}
use Rattle.bits.specs.Inner.Cursors.{position}
use Rattle.limits.specs.declared.Limits.{Limits}
use Rattle.book.specs.Inner.BookBuffers.{BookBuffers}
use Rattle.residue.specs.Reading.{Books}
use Rattle.residue.specs.Inner.FromTable.{books_of}
use Rattle.setup.specs.Content.{Setup, books_known}
use Rattle.setup.specs.Layout.{tables, layout, has_room, written_out}
use Rattle.setup.specs.Inner.Parts.{ReadInto, ReadCounted, BooksStored, ClearedBookBuffers, RestStored, Small, WrittenOut, book_part, rest_part, setup_with, after_header}
use Rattle.setup.proofs.ReadIntoLaws.{read_into_refused, counted_bad, counted_ok}
use Rattle.setup.proofs.TableLaws.{room_parts}
use Rattle.setup_sections.proofs.PartLaws.{followed}
use Rattle.setup.proofs.BookLinks.{books_link}
use Rattle.setup_buffers.specs.Inner.Blank.{Blank}
use Rattle.setup_buffers.proofs.BlankLaws.{cleared_long, cleared_zeros, pad_to_buffer}

-- the books' tables, which are cleared before they are filled
module _ (limits : Limits) {b b₁ l l₁ w w₁ m m₁ : List ℕ} (e0 : Blank b b₁) (e1 : Blank l l₁) (e2 : Blank w w₁) (e3 : Blank m m₁) where
  pub books_ready : BookBuffers limits b l w m → ClearedBookBuffers limits b₁ l₁ w₁ m₁
  books_ready y =
      let g0 = cleared_long e0 in
      let g1 = cleared_long e1 in
      let g2 = cleared_long e2 in
      let g3 = cleared_long e3 in
      record {
        buffers = record {
          books_long = let h = y.books_long in omega arith;
          lengths_long = let h = y.lengths_long in omega arith;
          codewords_long = let h = y.codewords_long in omega arith;
          multiplicands_long = let h = y.multiplicands_long in omega arith;
          few_entries = y.few_entries;
          few_values = y.few_values;
        };
        no_books = cleared_zeros e0;
        no_lengths = cleared_zeros e1;
        no_codewords = cleared_zeros e2;
        no_multiplicands = cleared_zeros e3;
      }

  pub books_cleared : (s : List ℕ) (k : Cursor) {st : Result (ℕ × Cursor) Refusal} {b' l' w' m' : List ℕ} → ReadCounted (book_part limits s (position k)) st (λ n. BooksStored n b₁ b' l₁ l' w₁ w' m₁ m')
      → ReadCounted (book_part limits s (position k)) st (λ n. BooksStored n b b' l l' w w' m m')
  books_cleared s k h =
      record {
        step = h.step;
        stored = λ n c q x g.
            let i = h.stored n c q x g in
            record {
              count = i.count;
              books = pad_to_buffer _ e0 i.books;
              lengths = pad_to_buffer _ e1 i.lengths;
              codewords = pad_to_buffer _ e2 i.codewords;
              multiplicands = pad_to_buffer _ e3 i.multiplicands;
            };
      }

-- tables with room have room for the books
pub room_books : (limits : Limits) (c b l w m f r p a o : List ℕ) → has_room limits (tables c b l w m f r p a o) ≡ true → Small limits → BookBuffers limits b l w m
room_books limits c b l w m f r p a o room small =
    let d = room_parts limits (tables c b l w m f r p a o) room in
    record { books_long = d.books; lengths_long = d.lengths; codewords_long = d.codewords; multiplicands_long = d.multiplicands; few_entries = small.few_entries; few_values = small.few_values }

-- what follows the header
module _ (limits : Limits) (channels : ℕ) (s : List ℕ) (k : Cursor) where
  pub content_refused : {z : Refusal} {L : Setup → Type 0} {M : ℕ → _ → Type 0} → ReadCounted (book_part limits s (position k)) (Err z) M → ReadInto (after_header limits channels s (position k)) (Err z) L
  unfolding after_header
  content_refused h = read_into_refused (rw (counted_bad h))

  module _ {n : ℕ} {at : Cursor} {b b' l l' w w' m m' : List ℕ} (h : ReadCounted (book_part limits s (position k)) (Ok (n, at)) (λ n. BooksStored n b b' l l' w w' m m'))
      (c f r p a o : List ℕ) (room : has_room limits (tables c b l w m f r p a o) ≡ true) (few : n ≤ 256) where
    -- the books that were read are those of the table
    linked : (bs : _) → BooksStored n b b' l l' w w' m m' bs → books_of n b' ≡ books_known bs
    linked bs i =
        let e = i.count in
        let d = (room_parts limits (tables c b l w m f r p a o) room).books in
        ap (books_of n) i.books ∙ books_link (length b) n bs e (omega arith)

    out : {c' f' r' p' a' o' : List ℕ} (bs : _) (x : _) → BooksStored n b b' l l' w w' m m' bs → RestStored n c c' f f' r r' p p' a a' o o' x
        → tables c' b' l' w' m' f' r' p' a' o' ≡ written_out (setup_with bs x) (tables c b l w m f r p a o)
    unfolding written_out layout
    out {c'} bs x i v =
        let counted : c' ≡ pad (length c) (length bs ∷ length x.0.0 ∷ length x.0.1 ∷ length x.1.0 ∷ length x.1.1 ∷ [])
        = v.counts ∙ ap (λ (e : ℕ). pad (length c) (e ∷ length x.0.0 ∷ length x.0.1 ∷ length x.1.0 ∷ length x.1.1 ∷ [])) i.count in
        λ j. tables (counted j) (i.books j) (i.lengths j) (i.codewords j) (i.multiplicands j) (v.floors j) (v.residues j) (v.plans j) (v.mappings j) (v.modes j)

    pub content_read : {answer : Result Cursor Refusal} {c' f' r' p' a' o' : List ℕ} → ReadInto (rest_part channels (books_of n b') s (position at)) answer (RestStored n c c' f f' r r' p p' a a' o o')
        → ReadInto (after_header limits channels s (position k)) answer (WrittenOut (tables c b l w m f r p a o) (tables c' b' l' w' m' f' r' p' a' o'))
    unfolding after_header
    content_read {answer} {c'} {f'} {r'} {p'} {a'} {o'} h₂ =
        let x = counted_ok h in
        let h₃ = subst (λ (z : Books). ReadInto (rest_part channels z s (position at)) answer (RestStored n c c' f f' r r' p p' a a' o o')) (linked x.0 x.2) h₂ in
        rw x.1 (followed (setup_with x.0) (rest_part channels (books_known x.0) s (position at)) h₃ (λ z v. out x.0 z x.2 v))
