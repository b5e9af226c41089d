-- Pieces of specs/Reading.antt under names of their own, one for each function that reads one, and what each leaves in its tables. Nothing is added
-- to what is read. The tables are cleared before: what is written into them lies in front of zeros.
use Rattle.bits.specs.declared.refusal.Refusal.{Refusal}
use Rattle.bits.specs.declared.Cursor.{Cursor}
use Rattle.std.specs.Prelude.{ℕ, ◌≤◌, List, [], ◌∷◌, ◌≡◌, length, Result, Ok}
use Rattle.reading.specs.Outcome.{refusal, Outcome, ok, then, need}
use Rattle.reading.specs.Reader.{Reader}
use Rattle.reading.specs.Lists.{rows}
use Rattle.reading.specs.Pad.{pad}
use Rattle.reading.specs.Encoding.{Zeros}
use Rattle.bits.specs.Inner.Cursors.{outcome, stepped}
use Rattle.header.specs.Header.{common_header, framing}
use Rattle.limits.specs.declared.Limits.{Limits}
use Rattle.identification.specs.declared.Identity.{Identity}
use Rattle.identification.specs.Sound.{is_sound}
use Rattle.book.specs.Content.{Book}
use Rattle.book.specs.Inner.BookBuffers.{BookBuffers}
use Rattle.book.specs.Rows.{book_rows, all_lengths, all_codewords, all_multiplicands}
use Rattle.floor.specs.Content.{Floor}
use Rattle.floor.specs.Layout.{floor_row}
use Rattle.floor.specs.Reading.{floor}
use Rattle.residue.specs.Content.{Residue}
use Rattle.residue.specs.Layout.{head_row, plan_table}
use Rattle.residue.specs.Reading.{Books, residue}
use Rattle.mapping.specs.Content.{Mapping}
use Rattle.mapping.specs.Layout.{mapping_row}
use Rattle.mapping.specs.Reading.{mapping}
use Rattle.mapping.specs.declared.Known.{Known}
use Rattle.mode.specs.Content.{Mode}
use Rattle.mode.specs.Layout.{mode_row}
use Rattle.mode.specs.Reading.{mode}
use Rattle.setup.specs.Content.{Setup, books_known, known}
use Rattle.setup.specs.Reading.{book_section, section, time_value}
use Rattle.setup.specs.Layout.{Tables, has_room, written_out}

-- a function that answers r has read what o says; where that is a content, Stored says how it lies in the tables
pub record ReadInto {C : Type 0} (o : Outcome (C × ℕ)) (r : Result Cursor Refusal) (Stored : C → Type 0) : Type 0 where
  pub step : stepped r ≡ then o (λ x. ok x.1)
  pub stored : (x : C × ℕ) → o ≡ ok x → Stored x.0

-- the same of a function that also answers a number, as of the items of a section
pub record ReadCounted {V C : Type 0} (o : Outcome (C × ℕ)) (r : Result (V × Cursor) Refusal) (Stored : V → C → Type 0) : Type 0 where
  pub step : then (outcome r) (λ x. ok x.1) ≡ then o (λ x. ok x.1)
  pub stored : (v : V) (c : Cursor) → r ≡ Ok (v, c) → (x : C × ℕ) → o ≡ ok x → Stored v x.0

-- n items with their rows in a table that was lent as `entry`
module _ {A : Type 0} where
  pub record RowsStored (row : A → List ℕ) (n : ℕ) (entry exit : List ℕ) (items : List A) : Type 0 where
    pub count : n ≡ length items
    pub cells : exit ≡ pad (length entry) (rows row items)

-- the same of books and of residues, which have several tables: each as it was lent, and as it is left
pub record BooksStored (n : ℕ) (b b' l l' w w' m m' : List ℕ) (bs : List Book) : Type 0 where
  pub count : n ≡ length bs
  pub books : b' ≡ pad (length b) (book_rows (record { entries = 0; values = 0 }) bs)
  pub lengths : l' ≡ pad (length l) (all_lengths bs)
  pub codewords : w' ≡ pad (length w) (all_codewords bs)
  pub multiplicands : m' ≡ pad (length m) (all_multiplicands bs)

pub record ResiduesStored (n : ℕ) (r r' p p' : List ℕ) (rs : List Residue) : Type 0 where
  pub count : n ≡ length rs
  pub residues : r' ≡ pad (length r) (rows head_row rs)
  pub plans : p' ≡ pad (length p) (rows plan_table rs)

pub record FloorsStored (floors residues : ℕ) (f f' r r' p p' : List ℕ) (x : List Floor × List Residue) : Type 0 where
  pub floor_rows : RowsStored floor_row floors f f' x.0
  pub residue_rows : ResiduesStored residues r r' p p' x.1

pub record MappingsStored (mappings modes : ℕ) (m m' o o' : List ℕ) (x : List Mapping × List Mode) : Type 0 where
  pub mapping_rows : RowsStored mapping_row mappings m m' x.0
  pub mode_rows : RowsStored mode_row modes o o' x.1

-- the limits within which the program can count
pub record Small (limits : Limits) : Type 0 where
  pub few_channels : limits.channels ≤ 255
  pub few_entries : limits.entries ≤ 16777216
  pub few_values : limits.multiplicands ≤ 16777216

-- cleared tables with room for books
pub record ClearedBookBuffers (limits : Limits) (books lengths codewords multiplicands : List ℕ) : Type 0 where
  pub buffers : BookBuffers limits books lengths codewords multiplicands
  pub no_books : Zeros books
  pub no_lengths : Zeros lengths
  pub no_codewords : Zeros codewords
  pub no_multiplicands : Zeros multiplicands

-- the books, and behind them the time values
unfoldable pub book_part : Limits → Reader (List Book)
book_part limits s k = then (book_section limits s k) (λ bs. then (section time_value s bs.1) (λ times. ok (bs.0, times.1)))

-- floors and residues
unfoldable pub floor_part : Books → Reader (List Floor × List Residue)
floor_part books s k =
    then (section (floor books.count) s k) (λ fs.
    then (section (residue books) s fs.1) (λ rs.
    ok ((fs.0, rs.0), rs.1)))

-- mappings and modes
unfoldable pub mapping_part : Known → Reader (List Mapping × List Mode)
mapping_part known s k =
    then (section (mapping known) s k) (λ ms.
    then (section (mode (length ms.0)) s ms.1) (λ modes.
    ok ((ms.0, modes.0), modes.1)))

-- what follows the books
unfoldable pub after_books : ℕ → Books → Reader ((List Floor × List Residue) × (List Mapping × List Mode))
after_books channels books s k =
    then (floor_part books s k) (λ x.
    then (mapping_part (known channels x.0.0 x.0.1) s x.1) (λ y.
    ok ((x.0, y.0), y.1)))

abbrev pub setup_with : List Book → (List Floor × List Residue) × (List Mapping × List Mode) → Setup
setup_with bs x = record { books = bs; floors = x.0.0; residues = x.0.1; mappings = x.1.0; modes = x.1.1 }

-- and the framing bit
unfoldable pub rest_part : ℕ → Books → Reader ((List Floor × List Residue) × (List Mapping × List Mode))
rest_part channels books s k = then (after_books channels books s k) (λ x. then (framing s x.1) (λ f. ok (x.0, f.1)))

-- what follows the header
unfoldable pub after_header : Limits → ℕ → Reader Setup
after_header limits channels s k =
    then (book_part limits s k) (λ bs.
    then (rest_part channels (books_known bs.0) s bs.1) (λ x.
    ok (setup_with bs.0 x.0, x.1)))

-- the whole packet, with that position
unfoldable pub packet_part : Limits → ℕ → List ℕ → Outcome (Setup × ℕ)
packet_part limits channels s = then (common_header 5 s) (λ k. after_header limits channels s k)

-- and behind the judging of what was handed in beside it
unfoldable pub checked_part : Limits → Identity → List ℕ → Tables → Outcome (Setup × ℕ)
checked_part limits i s t = need (is_sound limits.channels i) (refusal 18 0) (need (has_room limits t) (refusal 17 0) (packet_part limits i.channels s))

-- how floors and all that follows them lie in the tables
pub record AfterBooksStored (floors residues mappings modes : ℕ) (f f' r r' p p' m m' o o' : List ℕ) (x : (List Floor × List Residue) × (List Mapping × List Mode)) : Type 0 where
  pub floor_part_is : FloorsStored floors residues f f' r r' p p' x.0
  pub mapping_part_is : MappingsStored mappings modes m m' o o' x.1

-- the same with the counts, behind n books
pub record RestStored (n : ℕ) (c c' f f' r r' p p' m m' o o' : List ℕ) (x : (List Floor × List Residue) × (List Mapping × List Mode)) : Type 0 where
  pub counts : c' ≡ pad (length c) (n ∷ length x.0.0 ∷ length x.0.1 ∷ length x.1.0 ∷ length x.1.1 ∷ [])
  pub floors : f' ≡ pad (length f) (rows floor_row x.0.0)
  pub residues : r' ≡ pad (length r) (rows head_row x.0.1)
  pub plans : p' ≡ pad (length p) (rows plan_table x.0.1)
  pub mappings : m' ≡ pad (length m) (rows mapping_row x.1.0)
  pub modes : o' ≡ pad (length o) (rows mode_row x.1.1)

-- how a content lies in all tables: they were t, and are u
abbrev pub WrittenOut : Tables → Tables → Setup → Type 0
WrittenOut t u c = u ≡ written_out c t
