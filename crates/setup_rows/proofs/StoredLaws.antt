-- In sound tables each book of the content lies whole, with its own entries: what the reading of one codeword asks for. Assumes nothing.
use Prim.Native.Nat.{ℕ, zero, suc, ◌+◌, ◌-◌, ◌*◌, ◌≤◌, ◌<◌}
use native.Mathlib.Omega.{arith}
use mathlib.Core.List.{List, [], ◌∷◌, ◌++◌, append_assoc}
use mathlib.Core.Path.{◌≡◌, refl, sym, ap, subst, ◌∙◌}
use lib.ListN.{length, get_or, take, drop, replicate, length-append, get_or-map}
use lib.Seq.{take_at, drop_at}
use Rattle.reading.specs.Lists.{rows}
use Rattle.reading.specs.Pad.{pad}
use Rattle.reading.proofs.Pads.{pad_get}
use Rattle.limits.specs.declared.Limits.{Limits}
use Rattle.codeword_assignment.specs.Book.{ledger_codewords, lone_mark}
use Rattle.codeword_assignment.proofs.Laws.{codewords_length}
use Rattle.codeword.specs.Inner.Book.{Codebook}
use Rattle.book.specs.Content.{Book}
use Rattle.book.specs.Layout.{book_width, book_row, number_at, entries_at, first_entry_at, lone_at}
use Rattle.book.specs.HeadReading.{Before}
use Rattle.book.specs.Reading.{and_this}
use Rattle.book.specs.Rows.{book_rows, all_lengths, all_codewords, and_these}
use Rattle.book.specs.Inner.Valid.{ValidBook, ValidBooks}
use Rattle.book.proofs.RuleLaws.{lengths_accepted}
use Rattle.book.proofs.BooksStored.{row_at, these_entries, within_entries, pad_fits}
use Rattle.book_codeword.specs.Inner.Stored.{entries_of, BookStored}
use Rattle.setup.specs.Content.{lengths_of}
use Rattle.setup.specs.Layout.{Tables}
use Rattle.setup.specs.Sound.{Sound}
use Rattle.setup.proofs.BookLinks.{no_book}
use Rattle.setup.proofs.WrittenLaws.{SoundFacts, sound_facts}

abbrev start : Before
start = record { entries = 0; values = 0 }

-- the row of item b between those before it and those behind it
rows_split : (row : Book → List ℕ) (bs : List Book) (b : ℕ) → b < length bs → rows row bs ≡ rows row (take b bs) ++ (row (get_or bs b no_book) ++ rows row (drop (suc b) bs))
unfolding rows
rows_split row [] b h = absurd (omega arith)
rows_split row (x ∷ bs) zero h = refl
rows_split row (x ∷ bs) (suc b) h =
    ap (λ (l : List ℕ). row x ++ l) (rows_split row bs b (omega arith))
    ∙ sym (append_assoc (row x) (rows row (take b bs)) (row (get_or bs b no_book) ++ rows row (drop (suc b) bs)))

module _ (row : Book → List ℕ) (bs : List Book) (b : ℕ) (h : b < length bs) (first n : ℕ) (e : first ≡ length (rows row (take b bs))) (f : n ≡ length (row (get_or bs b no_book))) where
  part_within : first + n ≤ length (rows row bs)
  part_within =
      let s = ap length (rows_split row bs b h) in
      let a = length-append (rows row (take b bs)) (row (get_or bs b no_book) ++ rows row (drop (suc b) bs)) in
      let c = length-append (row (get_or bs b no_book)) (rows row (drop (suc b) bs)) in
      omega arith

  part_is : (room : ℕ) → length (rows row bs) ≤ room → take n (drop first (pad room (rows row bs))) ≡ row (get_or bs b no_book)
  part_is room g =
      let before = rows row (take b bs) in
      let own = row (get_or bs b no_book) in
      let after = rows row (drop (suc b) bs) in
      let zeros : List ℕ = replicate (room - length (rows row bs)) 0 in
      let whole : pad room (rows row bs) ≡ before ++ (own ++ (after ++ zeros)) =
      pad_fits room (rows row bs) g
      ∙ ap (λ (l : List ℕ). l ++ zeros) (rows_split row bs b h)
      ∙ append_assoc before (own ++ after) zeros
      ∙ ap (λ (l : List ℕ). before ++ l) (append_assoc own after zeros) in
      ap (λ (l : List ℕ). take n (drop first l)) whole
      ∙ ap (take n) (drop_at before (own ++ (after ++ zeros)) first (sym e))
      ∙ take_at own (after ++ zeros) n (sym f)

-- as many codewords as lengths
codewords_long : (bs : List Book) → length (all_codewords bs) ≡ length (all_lengths bs)
unfolding rows
codewords_long [] = refl
codewords_long (x ∷ bs) =
    let i = codewords_long bs in
    let l = codewords_length x.lengths in
    let a = length-append (ledger_codewords x.lengths) (all_codewords bs) in
    let b = length-append x.lengths (all_lengths bs) in
    omega arith

-- what is valid of all books, of book b
valid_at : (limits : Limits) (before : Before) (bs : List Book) (b : ℕ) → ValidBooks limits before bs → b < length bs → ValidBook limits (and_these before (take b bs)) (get_or bs b no_book)
unfolding ValidBooks and_these
valid_at limits before [] b v h = absurd (omega arith)
valid_at limits before (x ∷ bs) zero v h = v.0
valid_at limits before (x ∷ bs) (suc b) v h = valid_at limits (and_this before x) bs b v.1 (omega arith)

module _ {limits : Limits} {channels : ℕ} {t : Tables} (sound : Sound limits channels t) where
  abbrev items : List Book
  items = sound.content.books

  facts : SoundFacts limits channels t sound.content
  facts = sound_facts sound

  module _ (b : ℕ) (h : b < length sound.content.books) where
    abbrev own : Book
    own = get_or items b no_book

    number : (column : ℕ) → column < book_width → number_at t.books b column ≡ get_or (book_row (and_these start (take b items)).entries (and_these start (take b items)).values own) column 0
    number column low =
        let r = facts.room.books in
        let c = facts.valid.book_count.high in
        ap (λ (l : List ℕ). get_or l (book_width * b + column) 0) facts.written.books
        ∙ pad_get (length t.books) (book_rows start items) (book_width * b + column) (omega arith)
        ∙ row_at start items b column no_book h low

    pub entries_are : entries_at t.books b ≡ length (get_or sound.content.books b no_book).lengths
    unfolding book_row
    entries_are = number 1 (omega arith)

    first_is : first_entry_at t.books b ≡ length (all_lengths (take b items))
    unfolding book_row
    first_is = let e = these_entries start (take b items) in let n = number 2 (omega arith) in omega arith

    lone_is : lone_at t.books b ≡ lone_mark own.lengths
    unfolding book_row
    lone_is = number 10 (omega arith)

    first_word : first_entry_at t.books b ≡ length (all_codewords (take b items))
    first_word = first_is ∙ sym (codewords_long (take b items))

    codewords_count : entries_at t.books b ≡ length (ledger_codewords own.lengths)
    codewords_count = entries_are ∙ sym (codewords_length own.lengths)

    fits : length (all_lengths items) ≤ limits.entries
    fits = let w = within_entries limits start items (omega arith) facts.valid.books in omega arith

    own_lengths : entries_of t.books b t.lengths ≡ own.lengths
    own_lengths =
        let r = facts.room.lengths in
        let f = fits in
        ap (entries_of t.books b) facts.written.lengths
        ∙ part_is (λ x. x.lengths) items b h (first_entry_at t.books b) (entries_at t.books b) first_is entries_are (length t.lengths) (omega arith)

    own-codewords : entries_of t.books b t.codewords ≡ ledger_codewords own.lengths
    own-codewords =
        let r = facts.room.codewords in
        let f = fits in
        let c = codewords_long items in
        ap (entries_of t.books b) facts.written.codewords
        ∙ part_is (λ x. ledger_codewords x.lengths) items b h (first_entry_at t.books b) (entries_at t.books b) first_word codewords_count (length t.codewords) (omega arith)

    -- the book meets every rule
    pub book_valid : ValidBook limits (and_these (record { entries = 0; values = 0 }) (take b sound.content.books)) (get_or sound.content.books b no_book)
    book_valid = valid_at limits start items b facts.valid.books h

    -- THE LENGTHS OF BOOK b IN THE TABLES are those of the content
    pub entries_of_lem : entries_of t.books b t.lengths ≡ lengths_of sound.content b
    unfolding lengths_of
    entries_of_lem = own_lengths ∙ sym (get_or-map (λ x. x.lengths) items b no_book)

    -- AND THE BOOK LIES WHOLE
    pub book_stored : BookStored t.books t.lengths t.codewords b
    book_stored =
        let v = book_valid in
        let rl = facts.room.lengths in
        let rc = facts.room.codewords in
        let f = fits in
        let w = part_within (λ x. x.lengths) items b h (first_entry_at t.books b) (entries_at t.books b) first_is entries_are in
        let high = v.carried.entries in
        let whole : Codebook own.lengths (ledger_codewords own.lengths) = record { entries = omega arith; accepted = lengths_accepted own v.rule7 v.rule8; coded = refl } in
        record {
          lengths_fit = omega arith;
          codewords_fit = omega arith;
          book = subst (λ (ls : List ℕ). Codebook ls (entries_of t.books b t.codewords)) (sym own_lengths)
              (subst (λ (ws : List ℕ). Codebook own.lengths ws) (sym own-codewords) whole);
          lone = lone_is ∙ ap lone_mark (sym own_lengths);
        }
