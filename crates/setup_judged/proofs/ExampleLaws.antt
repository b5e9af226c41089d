-- THE SETUP PACKET THAT IS ACCEPTED, and the two that are not: each section computed from the packet. The ledger is never computed: what it says of the lengths is
-- computed by the model, whose answers are the ledger's. Assumes nothing.
use Prim.Native.Nat.{ℕ}
use native.Mathlib.Omega.{arith}
use mathlib.Core.Bool.{true}
use mathlib.Core.List.{List, [], ◌∷◌}
use mathlib.Core.Option.{Option, some}
use mathlib.Core.Path.{◌≡◌, refl, sym, ap, ◌∙◌}
use Rattle.reading.specs.Outcome.{refusal, ok, bad}
use Rattle.reading.specs.Least.{lowest}
use Rattle.reading.specs.Reader.{many, each, mapped}
use Rattle.reading.specs.Lists.{listed, distinct, all, rows, sum}
use Rattle.bits.specs.Field.{bit_at, value_at, field}
use Rattle.header.specs.Header.{exactly, common_header, framing}
use Rattle.identification.specs.Sound.{is_sound}
use Rattle.codespace.specs.Ledger.{is_length}
use Rattle.codespace.specs.Claims.{accepted}
use Rattle.codespace.specs.Inner.Blocks.{smallest, block_above, block_for, enter_answer, enter_blocks, run_answers, empty_blocks}
use Rattle.codespace.proofs.Whole.{answers_are}
use Rattle.codeword_assignment.specs.Book.{used, is_used, is_lone, first_refused, verdict}
use Rattle.codeword_assignment.specs.Book as B
use Rattle.codeword_assignment.proofs.Computed.{verdict_by, verdict_is}
use Rattle.book.specs.HeadReading as H
use Rattle.book.specs.LengthsReading as L
use Rattle.book.specs.LookupReading as U
use Rattle.book.specs.Reading as K
use Rattle.floor.specs.XListReading as X
use Rattle.floor.specs.Content.{class_count, value_count}
use Rattle.floor.specs.Reading as F
use Rattle.residue.specs.Reading as R
use Rattle.mapping.specs.Reading as M
use Rattle.mode.specs.Reading as O
use Rattle.setup.specs.Content.{books_known, known}
use Rattle.setup.specs.Reading.{book_section, section, time_value, sections, setup}
use Rattle.setup.specs.Rules.{entries_in_all, multiplicands_in_all}
use Rattle.setup.specs.Layout.{Tables, has_room}
use Rattle.setup.specs.Call.{setup_of, setup_call, answered}
use Rattle.setup_judged.specs.Judged.{LedgerTakes, LeavesSpace, LengthsRead}
use Rattle.limits.specs.Standard.{standard}
use Rattle.setup_judged.specs.Example.{identity, packet, content, refused7, refused8, AcceptsExample}
use Rattle.setup_judged.proofs.JudgedLaws.{none_7, takes_8, number_0, number_7, number_8, judged_by_call}

-- the verdict of lengths, by the model's answers
by_model : (ls : List ℕ) → B.refusal (verdict ls) ≡ B.refusal (verdict_by ls (run_answers empty_blocks ls))
by_model ls = ap B.refusal (verdict_is ls) ∙ ap (λ (os : List (Option ℕ)). B.refusal (verdict_by ls os)) (sym (answers_are ls))

-- lines of 01's table of figures
taken : LedgerTakes (2 ∷ 1 ∷ 2 ∷ [])
unfolding lowest is_used is_lone used accepted run_answers enter_answer enter_blocks block_for is_length block_above smallest empty_blocks
taken = number_0 (2 ∷ 1 ∷ 2 ∷ []) (by_model (2 ∷ 1 ∷ 2 ∷ []))

left_over : LeavesSpace (1 ∷ 2 ∷ [])
unfolding lowest is_used is_lone used accepted run_answers enter_answer enter_blocks block_for is_length block_above smallest empty_blocks
left_over = number_8 (1 ∷ 2 ∷ []) (by_model (1 ∷ 2 ∷ []))

one_too_many : (e : ℕ) × (first_refused (2 ∷ 4 ∷ 4 ∷ 4 ∷ 4 ∷ 2 ∷ 3 ∷ 3 ∷ 1 ∷ []) ≡ some e)
unfolding lowest is_used is_lone used accepted run_answers enter_answer enter_blocks block_for is_length block_above smallest empty_blocks
one_too_many = number_7 (2 ∷ 4 ∷ 4 ∷ 4 ∷ 4 ∷ 2 ∷ 3 ∷ 3 ∷ 1 ∷ []) (by_model (2 ∷ 4 ∷ 4 ∷ 4 ∷ 4 ∷ 2 ∷ 3 ∷ 3 ∷ 1 ∷ []))

-- the packet's fields, section by section, up to the bit that each ends at
header_read : common_header 5 packet ≡ ok 56
unfolding common_header exactly field value_at bit_at
header_read = refl

count_read : field 8 packet 56 ≡ ok (0, 64)
unfolding field value_at bit_at
count_read = refl

head_read : H.head standard (record { entries = 0; values = 0 }) packet 64 ≡ ok (record { dimensions = 1; entries = 3 }, 128)
unfolding H.head field value_at bit_at
head_read = refl

lengths_read : L.lengths 64 3 packet 128 ≡ ok (2 ∷ 1 ∷ 2 ∷ [], 145)
unfolding L.lengths L.entry_length many mapped field value_at bit_at
lengths_read = refl

lookup_read : U.lookup 64 3 1 16384 0 packet 145 ≡ ok (U.no_lookup, 149)
unfolding U.lookup field value_at bit_at
lookup_read = refl

times_read : section time_value packet 149 ≡ ok (0 ∷ [], 171)
unfolding section time_value many field value_at bit_at
times_read = refl

floors_read : section (F.floor 1) packet 171 ≡ ok (content.floors, 204)
unfolding section F.floor F.floor_type F.floor1 F.floor_from X.ends X.ends_from X.x_values class_count value_count many distinct listed field value_at bit_at
floors_read = refl

residues_read : section (R.residue (books_known content.books)) packet 204 ≡ ok (content.residues, 316)
unfolding section R.residue R.residue_from R.head R.head_from R.cascade R.plan_row R.plan_book R.residue_fits R.place_fits books_known all rows each many mapped field value_at bit_at
residues_read = refl

mappings_read : section (M.mapping (known 1 content.floors content.residues)) packet 316 ≡ ok (content.mappings, 366)
unfolding section M.mapping M.submap_count M.coupling_count M.parts M.multiplexes M.submap known many mapped field value_at bit_at
mappings_read = refl

modes_read : section (O.mode 1) packet 366 ≡ ok (content.modes, 454)
unfolding section O.mode many field value_at bit_at
modes_read = refl

framing_read : framing packet 454 ≡ ok (1, 455)
unfolding framing field value_at bit_at
framing_read = refl

identity_sound : is_sound 8 identity ≡ true
unfolding is_sound listed
identity_sound = refl

-- the book, whose lengths the ledger takes; the books; all sections
book_read : K.book standard (record { entries = 0; values = 0 }) packet 64 ≡ ok (record { dimensions = 1; lengths = 2 ∷ 1 ∷ 2 ∷ []; lookup = 0; minimum = 0; delta = 0; width = 0; sequence = 0; multiplicands = [] }, 149)
unfolding K.book L.entered
book_read = rw (head_read, lengths_read, none_7 (2 ∷ 1 ∷ 2 ∷ []) taken.none_refused, takes_8 (2 ∷ 1 ∷ 2 ∷ []) taken, lookup_read)

books_read : book_section standard packet 56 ≡ ok (content.books, 149)
unfolding book_section K.books
books_read = rw (count_read, book_read)

sections_read : sections standard 1 packet 56 ≡ ok (content, 454)
unfolding sections
sections_read = rw (books_read, times_read, floors_read, residues_read, mappings_read, modes_read)

setup_read : setup standard 1 packet ≡ ok content
unfolding setup
setup_read = rw (header_read, sections_read, framing_read)

-- and in both other packets as far as the lengths
header_read7 : common_header 5 refused7 ≡ ok 56
unfolding common_header exactly field value_at bit_at
header_read7 = refl

count_read7 : field 8 refused7 56 ≡ ok (0, 64)
unfolding field value_at bit_at
count_read7 = refl

head_read7 : H.head standard (record { entries = 0; values = 0 }) refused7 64 ≡ ok (record { dimensions = 1; entries = 9 }, 128)
unfolding H.head field value_at bit_at
head_read7 = refl

lengths_read7 : L.lengths 64 9 refused7 128 ≡ ok (2 ∷ 4 ∷ 4 ∷ 4 ∷ 4 ∷ 2 ∷ 3 ∷ 3 ∷ 1 ∷ [], 175)
unfolding L.lengths L.entry_length many mapped field value_at bit_at
lengths_read7 = refl

header_read8 : common_header 5 refused8 ≡ ok 56
unfolding common_header exactly field value_at bit_at
header_read8 = refl

count_read8 : field 8 refused8 56 ≡ ok (0, 64)
unfolding field value_at bit_at
count_read8 = refl

head_read8 : H.head standard (record { entries = 0; values = 0 }) refused8 64 ≡ ok (record { dimensions = 1; entries = 2 }, 128)
unfolding H.head field value_at bit_at
head_read8 = refl

lengths_read8 : L.lengths 64 2 refused8 128 ≡ ok (1 ∷ 2 ∷ [], 140)
unfolding L.lengths L.entry_length many mapped field value_at bit_at
lengths_read8 = refl

module _ (t : Tables) (room : has_room standard t ≡ true) where
  called : setup_of standard identity packet t ≡ ok content
  unfolding setup_of
  called = rw (identity_sound, room, setup_read)

  all_lengths_is : (s : List ℕ) {entries : ℕ} {ls : List ℕ} {after : ℕ} → common_header 5 s ≡ ok 56 → field 8 s 56 ≡ ok (0, 64)
      → H.head standard (record { entries = 0; values = 0 }) s 64 ≡ ok (record { dimensions = 1; entries = entries }, 128) → L.lengths 64 entries s 128 ≡ ok (ls, after)
      → LengthsRead standard identity s t 64 ls
  unfolding K.books entries_in_all multiplicands_in_all sum
  all_lengths_is s {entries} {ls} {after} p q h l =
      record {
        sound = identity_sound;
        room = room;
        start = 56;
        opened = p;
        others = 0;
        first = 64;
        numbered = q;
        before = [];
        one_of_them = omega arith;
        books_read = refl;
        this = record { dimensions = 1; entries = entries };
        after_head_is = 128;
        head_read = h;
        after = after;
        lengths_read = l;
      }

  too_many : setup_of standard identity refused7 t ≡ bad (refusal 7 64)
  too_many = (judged_by_call (all_lengths_is refused7 header_read7 count_read7 head_read7 lengths_read7)).seven.1 one_too_many

  too_few : setup_of standard identity refused8 t ≡ bad (refusal 8 64)
  too_few = (judged_by_call (all_lengths_is refused8 header_read8 count_read8 head_read8 lengths_read8)).eight.1 left_over

-- THE CLAIM
pub accepts_example : AcceptsExample
unfolding setup_call answered
accepts_example =
    record {
      accepted = called;
      answers = λ t room. rw (called t room);
      lengths = λ t room. all_lengths_is t room packet header_read count_read head_read lengths_read;
      answers7 = λ t room. rw (too_many t room);
      answers8 = λ t room. rw (too_few t room);
    }
