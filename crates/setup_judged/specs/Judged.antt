-- WHEN THE SETUP CALL GIVES 7 OR 8 FOR A BOOK (01, "Bits and books": once a setup call has read all lengths of a book, they are accepted when it gives neither
-- 7 nor 8 for that book). Refusals 7 and 8 have their place at the book's first bit (crates/book/specs/LengthsReading.antt), so a book is named by it.
use Rattle.std.specs.Prelude.{ℕ, ◌≤◌, true, false, List, ◌⊎◌, ◌↔◌, ◌≡◌, length}
use Rattle.std.proofs.Math.Option.{none, some}
use Rattle.reading.specs.Outcome.{refusal, ok, bad}
use Rattle.bits.specs.Field.{field}
use Rattle.header.specs.Header.{common_header}
use Rattle.limits.specs.declared.Limits.{Limits}
use Rattle.identification.specs.declared.Identity.{Identity}
use Rattle.identification.specs.Sound.{is_sound}
use Rattle.codeword_assignment.specs.Book.{used, is_lone, first_refused, free_after}
use Rattle.book.specs.Content.{Book}
use Rattle.book.specs.HeadReading.{Before, head}
use Rattle.book.specs.declared.Head.{Head}
use Rattle.book.specs.LengthsReading.{lengths}
use Rattle.book.specs.Reading.{books}
use Rattle.setup.specs.Layout.{Tables, has_room}
use Rattle.setup.specs.Rules.{entries_in_all, multiplicands_in_all}
use Rattle.setup.specs.Call.{setup_of, setup_call}

-- the ledger refused no used entry, and nothing is left or the only used entry has length one (01, refusals 7 and 8)
pub record LedgerTakes (ls : List ℕ) : Type 0 where
  pub none_refused : first_refused ls ≡ none
  pub full_or_lone : (free_after ls ≡ 0) ⊎ (is_lone (used ls) ≡ true)

-- it refused none, but some space is left, and not for a sole used entry of length one
pub record LeavesSpace (ls : List ℕ) : Type 0 where
  pub none_refused : first_refused ls ≡ none
  pub left : 1 ≤ free_after ls
  pub not_lone : is_lone (used ls) ≡ false

-- how many entries and multiplicands these books have
abbrev pub counted : List Book → Before
counted bs = record { entries = entries_in_all bs; values = multiplicands_in_all bs }

-- THE CALL HAS COME TO THE BOOK AT BIT `place` AND HAS READ ALL ITS LENGTHS, ls: step by step what it has read, all of it accepted
pub record LengthsRead (limits : Limits) (i : Identity) (s : List ℕ) (t : Tables) (place : ℕ) (ls : List ℕ) : Type 0 where
  -- neither 18 nor 17
  pub sound : is_sound limits.channels i ≡ true
  pub room : has_room limits t ≡ true
  -- the type byte and the name, up to bit `start`
  pub start : ℕ
  pub opened : common_header 5 s ≡ ok start
  -- 8 bits, one less than the number of books, up to bit `first`
  pub others : ℕ
  pub first : ℕ
  pub numbered : field 8 s start ≡ ok (others, first)
  -- some books, and then this one
  pub before : List Book
  pub one_of_them : length before ≤ others
  pub books_read : books limits (record { entries = 0; values = 0 }) (length before) s first ≡ ok (before, place)
  -- its head, up to bit `after_head_is`
  pub this : Head
  pub after_head_is : ℕ
  pub head_read : head limits (counted before) s place ≡ ok (this, after_head_is)
  -- its lengths
  pub after : ℕ
  pub lengths_read : lengths place this.entries s after_head_is ≡ ok (ls, after)

-- WHAT THE CALL THEN GIVES FOR THAT BOOK
pub record JudgedByCall (limits : Limits) (i : Identity) (s : List ℕ) (t : Tables) (place : ℕ) (ls : List ℕ) : Type 0 where
  -- neither 7 nor 8 exactly when the ledger takes the lengths
  pub neither : ((setup_of limits i s t ≡ bad (refusal 7 place) → ⊥) × (setup_of limits i s t ≡ bad (refusal 8 place) → ⊥)) ↔ LedgerTakes ls
  -- 7 exactly when the ledger refuses some entry; 8 exactly when it refuses none but leaves space
  pub seven : (setup_of limits i s t ≡ bad (refusal 7 place)) ↔ ((e : ℕ) × (first_refused ls ≡ some e))
  pub eight : (setup_of limits i s t ≡ bad (refusal 8 place)) ↔ LeavesSpace ls
  -- and so the number that the call answers
  pub answers7 : (e : ℕ) → first_refused ls ≡ some e → (setup_call limits i s t).number ≡ 7
  pub answers8 : LeavesSpace ls → (setup_call limits i s t).number ≡ 8
