-- THE THEOREM: tables that stand part by part, each with its count, are the writing-out of a setup that meets every rule, and back. Assumes nothing.
use Prim.Native.Nat.{ℕ, ◌≤◌}
use native.Mathlib.Omega.{arith}
use mathlib.Core.List.{List}
use mathlib.Core.Path.{◌≡◌, sym, ap, subst, ◌∙◌}
use lib.ListN.{length, get_or}
use Rattle.reading.specs.Pad.{pad}
use Rattle.reading.specs.Counted.{Counted}
use Rattle.reading.specs.Encoding.{Each}
use Rattle.reading.proofs.Encodes.{rows_length}
use Rattle.limits.specs.declared.Limits.{Limits}
use Rattle.book.specs.Content.{Book}
use Rattle.book.specs.Layout.{books_need}
use Rattle.book.specs.HeadReading.{totals}
use Rattle.book.specs.Rows.{book_rows}
use Rattle.book_tables.specs.Inner.Recognised.{BooksRecognised}
use Rattle.floor.specs.Content.{Floor}
use Rattle.floor.specs.Inner.Valid.{ValidFloor}
use Rattle.floor_tables.specs.Inner.Recognised.{FloorsRecognised}
use Rattle.residue.specs.Content.{Residue}
use Rattle.residue.specs.Inner.FromTable.{books_of}
use Rattle.residue.specs.Reading.{Books}
use Rattle.residue.specs.Inner.Valid.{ValidResidue}
use Rattle.residue_tables.specs.Inner.Recognised.{ResiduesRecognised}
use Rattle.mapping.specs.declared.Known.{Known}
use Rattle.mapping.specs.Layout.{mapping_row, mapping_width}
use Rattle.mapping.specs.Inner.Valid.{ValidMapping}
use Rattle.mapping.proofs.RowLaws.{mapping_wide}
use Rattle.mapping_tables.specs.Inner.Recognised.{MappingsRecognised}
use Rattle.mode.specs.Layout.{mode_row}
use Rattle.mode.specs.Inner.Valid.{ValidMode}
use Rattle.mode_tables.specs.Inner.Recognised.{ModesRecognised}
use Rattle.mode.proofs.Laws.{mode_wide}
use Rattle.setup.specs.Content.{Setup, books_known, known}
use Rattle.setup.specs.Layout.{Tables, layout, written_out, tables}
use Rattle.setup.specs.Inner.Valid.{ValidSetup}
use Rattle.setup.specs.Sound.{Sound}
use Rattle.setup.proofs.RuleLaws.{valid_carried, valid_meets}
use Rattle.setup.proofs.BookLinks.{books_link}
use Rattle.setup.proofs.TableLaws.{room_parts}
use Rattle.setup.proofs.CountsLaws.{five, five_written}
use Rattle.setup.proofs.WrittenLaws.{SoundFacts, sound_facts}
use Rattle.setup_tables.specs.Inner.Recognised.{CountsRecognised, known_by, PartsRecognised}

-- the books as the table has them are the books of the content
pub books_are : (count : ℕ) (t : List ℕ) (bs : List Book) → count ≡ length bs → count ≤ 256 → books_need ≤ length t → t ≡ pad (length t) (book_rows (totals 0 0) bs)
    → books_of count t ≡ books_known bs
books_are count t bs e few room w = ap (books_of count) w ∙ books_link (length t) count bs e (omega arith)

known_is : (channels : ℕ) (cs : List ℕ) (fs : List Floor) (rs : List Residue) → get_or cs 1 0 ≡ length fs → get_or cs 2 0 ≡ length rs → known_by channels cs ≡ known channels fs rs
unfolding known
known_is channels cs fs rs e f = λ j. record { channels = channels; floors = e j; residues = f j }

module _ (limits : Limits) (channels : ℕ) (t : Tables) where
  -- FROM THE PARTS TO THE WHOLE
  module _ (few : channels ≤ 255) (p : PartsRecognised limits channels t) where
    abbrev whole : Setup
    whole =
        record {
          books = p.front.book_tables.content;
          floors = p.front.floor_table.content;
          residues = p.back.residue_tables.content;
          mappings = p.back.mapping_table.items;
          modes = p.back.mode_table.items;
        }

    book_number : length p.front.book_tables.content ≡ get_or t.counts 0 0
    book_number = p.front.book_tables.counted

    floor_number_lem : length p.front.floor_table.content ≡ get_or t.counts 1 0
    floor_number_lem = p.front.floor_table.counted

    residue_number_lem : length p.back.residue_tables.content ≡ get_or t.counts 2 0
    residue_number_lem = p.back.residue_tables.holds.count

    mapping_number : length p.back.mapping_table.items ≡ get_or t.counts 3 0
    mapping_number = p.back.mapping_table.number

    mode_number : length p.back.mode_table.items ≡ get_or t.counts 4 0
    mode_number = p.back.mode_table.number

    books_same : books_of (get_or t.counts 0 0) t.books ≡ books_known p.front.book_tables.content
    books_same = books_are (get_or t.counts 0 0) t.books p.front.book_tables.content (sym book_number) p.numbers.books.high p.front.book_tables.books_room p.front.book_tables.book_rows_is

    whole_valid : ValidSetup limits channels whole
    whole_valid =
        record {
          book_count = subst (Counted 256) (sym book_number) p.numbers.books;
          books = p.front.book_tables.valid;
          floor_count = subst (Counted 64) (sym floor_number_lem) p.numbers.floors;
          floors = subst (λ (n : ℕ). Each (ValidFloor n) p.front.floor_table.content) (sym book_number) p.front.floor_table.valid;
          residue_count = subst (Counted 64) (sym residue_number_lem) p.numbers.residues;
          residues = subst (λ (k : Books). Each (ValidResidue k) p.back.residue_tables.content) books_same p.back.residue_tables.holds.valid;
          mapping_count = subst (Counted 64) (sym mapping_number) p.numbers.mappings;
          mappings =
              subst (λ (k : Known). Each (ValidMapping k) p.back.mapping_table.items)
              (known_is channels t.counts p.front.floor_table.content p.back.residue_tables.content (sym floor_number_lem) (sym residue_number_lem))
              p.back.mapping_table.valid;
          mode_count = subst (Counted 64) (sym mode_number) p.numbers.modes;
          modes = subst (λ (n : ℕ). Each (ValidMode n) p.back.mode_table.items) (sym mapping_number) p.back.mode_table.valid;
        }

    whole_written : t ≡ written_out whole t
    unfolding written_out layout
    whole_written =
        let room = room_parts limits t p.room in
        let c : t.counts ≡ pad (length t.counts) (five (length whole.books) (length whole.floors) (length whole.residues) (length whole.mappings) (length whole.modes)) =
        five_written t.counts room.counts p.numbers.zeros ∙ (λ j. pad (length t.counts) (five (sym book_number j) (sym floor_number_lem j) (sym residue_number_lem j) (sym mapping_number j) (sym mode_number j))) in
        λ j.
        tables
        (c j)
        (p.front.book_tables.book_rows_is j)
        (p.front.book_tables.all_lengths_is j)
        (p.front.book_tables.all_codewords_is j)
        (p.front.book_tables.all_multiplicands_is j)
        (p.front.floor_table.written j)
        (p.back.residue_tables.holds.head_rows j)
        (p.back.residue_tables.holds.plan_rows j)
        (p.back.mapping_table.written j)
        (p.back.mode_table.written j)

    pub parts_sound : Sound limits channels t
    parts_sound =
        record {
          content = whole;
          carried = valid_carried limits channels whole few whole_valid;
          rules = valid_meets limits channels whole whole_valid;
          room = p.room;
          written = whole_written;
        }

  -- FROM THE WHOLE TO THE PARTS
  module _ (s : Sound limits channels t) where
    facts : SoundFacts limits channels t s.content
    facts = sound_facts s

    counts_recognised : CountsRecognised t.counts
    counts_recognised =
        record {
          books = subst (Counted 256) (sym facts.written.counts.first) facts.valid.book_count;
          floors = subst (Counted 64) (sym facts.written.counts.second) facts.valid.floor_count;
          residues = subst (Counted 64) (sym facts.written.counts.third) facts.valid.residue_count;
          mappings = subst (Counted 64) (sym facts.written.counts.fourth) facts.valid.mapping_count;
          modes = subst (Counted 64) (sym facts.written.counts.fifth) facts.valid.mode_count;
          zeros = facts.written.counts.after;
        }

    books_recognised : BooksRecognised limits (get_or t.counts 0 0) t.books t.lengths t.codewords t.multiplicands
    books_recognised =
        record {
          books_room = facts.room.books;
          lengths_room = facts.room.lengths;
          codewords_room = facts.room.codewords;
          multiplicands_room = facts.room.multiplicands;
          content = s.content.books;
          counted = sym facts.written.counts.first;
          valid = facts.valid.books;
          book_rows_is = facts.written.books;
          all_lengths_is = facts.written.lengths;
          all_codewords_is = facts.written.codewords;
          all_multiplicands_is = facts.written.multiplicands;
        }

    floors_recognised : FloorsRecognised (get_or t.counts 0 0) (get_or t.counts 1 0) t.floors
    floors_recognised =
        record {
          room = facts.room.floors;
          content = s.content.floors;
          counted = sym facts.written.counts.second;
          valid = subst (λ (n : ℕ). Each (ValidFloor n) s.content.floors) (sym facts.written.counts.first) facts.valid.floors;
          written = facts.written.floors;
        }

    books_known_lem : books_of (get_or t.counts 0 0) t.books ≡ books_known s.content.books
    books_known_lem =
        books_are (get_or t.counts 0 0) t.books s.content.books facts.written.counts.first counts_recognised.books.high facts.room.books facts.written.books

    residues_recognised : ResiduesRecognised (books_of (get_or t.counts 0 0) t.books) (get_or t.counts 2 0) t.residues t.plans
    residues_recognised =
        record {
          room = facts.room.residues;
          room_plans = facts.room.plans;
          content = s.content.residues;
          holds = record {
            count = sym facts.written.counts.third;
            valid = subst (λ (k : Books). Each (ValidResidue k) s.content.residues) (sym books_known_lem) facts.valid.residues;
            head_rows = facts.written.residues;
            plan_rows = facts.written.plans;
          };
        }

    mappings_recognised : MappingsRecognised (known_by channels t.counts) (get_or t.counts 3 0) t.mappings
    mappings_recognised =
        let long = rows_length mapping_row (ValidMapping (known_by channels t.counts)) mapping_width mapping_wide s.content.mappings in
        let few = facts.valid.mapping_count.high in
        let room = facts.room.mappings in
        record {
          items = s.content.mappings;
          number = sym facts.written.counts.fourth;
          valid =
              subst (λ (k : Known). Each (ValidMapping k) s.content.mappings)
              (sym (known_is channels t.counts s.content.floors s.content.residues facts.written.counts.second facts.written.counts.third))
              facts.valid.mappings;
          fits = omega arith;
          written = facts.written.mappings;
        }

    modes_recognised : ModesRecognised (get_or t.counts 3 0) (get_or t.counts 4 0) t.modes
    modes_recognised =
        let long = rows_length mode_row (ValidMode (get_or t.counts 3 0)) 2 mode_wide s.content.modes in
        let few = facts.valid.mode_count.high in
        let room = facts.room.modes in
        record {
          items = s.content.modes;
          number = sym facts.written.counts.fifth;
          valid = subst (λ (n : ℕ). Each (ValidMode n) s.content.modes) (sym facts.written.counts.fourth) facts.valid.modes;
          fits = omega arith;
          written = facts.written.modes;
        }

    pub sound_parts : PartsRecognised limits channels t
    sound_parts =
        record {
          room = s.room;
          numbers = counts_recognised;
          front = record { book_tables = books_recognised; floor_table = floors_recognised };
          back = record { residue_tables = residues_recognised; mapping_table = mappings_recognised; mode_table = modes_recognised };
        }
