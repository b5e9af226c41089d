-- The books of sound tables: each book's numbers in its row are those of the content, for every number a caller may name; it can be read and has dimensions.
-- Assumes nothing.
use Prim.Native.Nat.{ℕ, ◌^◌, ◌≤◌, ◌<◌}
use native.Mathlib.Omega.{arith}
use borrow.Author.Tests.{leb-true, eq-eqb, not-true}
use mathlib.Core.List.{List, [], map}
use mathlib.Core.Logic.{⊎_elim}
use mathlib.Core.Path.{◌≡◌, sym, ap, ◌∙◌}
use lib.ListN.{length, get_or, take, drop, get_or-eq_default, get_or-map, length-map}
use Rattle.reading.proofs.Least.{true_not_false, lt_or_le}
use Rattle.reading.proofs.Basics.{other_than_zero}
use Rattle.limits.specs.declared.Limits.{Limits}
use Rattle.book.specs.Content.{Book}
use Rattle.book.specs.Layout.{dimensions_at, entries_at, first_entry_at}
use Rattle.book_codeword.specs.Inner.Stored.{lengths_in, dimensions_in}
use Rattle.floor_partition.specs.Inner.Stored.{Readable}
use Rattle.residue.specs.Reading.{Books}
use Rattle.residue.specs.Inner.FromTable.{books_of}
use Rattle.setup.specs.Content.{books_known, lengths_of, dimensions_of}
use Rattle.setup.specs.Layout.{Tables}
use Rattle.setup.specs.Sound.{Sound}
use Rattle.setup.proofs.BookLinks.{no_book, books_link}
use Rattle.setup.proofs.WrittenLaws.{SoundFacts, sound_facts}
use Rattle.setup_rows.specs.Inner.Rows.{CountsSound, BookSound}
use Rattle.setup_rows.proofs.StoredLaws.{entries_are, book_valid, entries_of_lem, book_stored}

module _ {limits : Limits} {channels : ℕ} {t : Tables} (x : Sound limits channels t) where
  abbrev items : List Book
  items = x.content.books

  facts : SoundFacts limits channels t x.content
  facts = sound_facts x

  pub counts_sound : CountsSound t x.content
  counts_sound =
      let n = facts.written.counts in
      let v = facts.valid in
      record {
        books = n.first;
        floors = n.second;
        residues = n.third;
        mappings = n.fourth;
        modes = n.fifth;
        book_count = v.book_count;
        floor_count = v.floor_count;
        residue_count = v.residue_count;
        mapping_count = v.mapping_count;
        mode_count = v.mode_count;
      }

  -- the books that a residue is judged against, as the table has them
  pub books_are : books_of (get_or t.counts 0 0) t.books ≡ books_known x.content.books
  books_are =
      let n = facts.written.counts.first in
      let few = facts.valid.book_count.high in
      let room = facts.room.books in
      ap (books_of (get_or t.counts 0 0)) facts.written.books ∙ books_link (length t.books) (get_or t.counts 0 0) items n (omega arith)

  module _ (b : ℕ) where
    dimensions_are : dimensions_at t.books b ≡ get_or (map (λ y. y.dimensions) x.content.books) b 0
    unfolding books_known
    dimensions_are = ap (λ (k : Books). k.dimensions b) books_are

    entry_counts : entries_at t.books b ≡ get_or (map (λ y. length y.lengths) x.content.books) b 0
    unfolding books_known
    entry_counts = ap (λ (k : Books). k.entries b) books_are

    -- of a book that is set up
    module _ (h : b < length x.content.books) where
      pub some_dimension : 1 ≤ dimensions_at t.books b
      some_dimension =
          let e = dimensions_are ∙ get_or-map (λ y. y.dimensions) items b no_book in
          let l = other_than_zero (get_or items b no_book).dimensions (λ z. true_not_false _ (eq-eqb _ 0 z) (not-true _ (book_valid x b h).rule6.dimensions)) in
          omega arith

      pub few_entries : entries_at t.books b < 2 ^ 24
      few_entries = let e = entries_are x b h in let l = (book_valid x b h).carried.entries in omega arith

      pub book_sound : BookSound t b
      unfolding dimensions_in
      book_sound = record { stored = book_stored x b h; some_dimension = some_dimension }

      pub book_readable : limits.book_entries ≤ 65536 → Readable t.books t.lengths t.codewords b
      book_readable few =
          let e = entries_are x b h in
          let l : length (get_or items b no_book).lengths ≤ limits.book_entries = leb-true _ _ (book_valid x b h).rule14 in
          record { stored = book_stored x b h; few = omega arith }

    -- none of a book that is not set up
    no_lengths : length x.content.books ≤ b → lengths_in t.books t.lengths b ≡ lengths_of x.content b
    unfolding lengths_in lengths_of
    no_lengths h =
        let m = length-map items (λ y. length y.lengths) in
        let l = length-map items (λ y. y.lengths) in
        let e : entries_at t.books b ≡ 0 = entry_counts ∙ get_or-eq_default (map (λ y. length y.lengths) items) 0 (omega arith) in
        ap (λ (n : ℕ). take n (drop (first_entry_at t.books b) t.lengths)) e ∙ sym (get_or-eq_default (map (λ y. y.lengths) items) [] (omega arith))

    lengths_at : lengths_in t.books t.lengths b ≡ lengths_of x.content b
    unfolding lengths_in
    lengths_at = ⊎_elim (entries_of_lem x b) no_lengths (lt_or_le b (length items))

  -- THE LENGTHS AND THE DIMENSIONS OF EVERY NUMBER
  pub lengths_are : lengths_in t.books t.lengths ≡ lengths_of x.content
  lengths_are = λ j b. lengths_at b j

  pub dimensions_all : dimensions_in t.books ≡ dimensions_of x.content
  unfolding dimensions_in dimensions_of
  dimensions_all = λ j b. dimensions_are b j
