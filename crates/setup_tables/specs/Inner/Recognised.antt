-- What the tables of a setup are tested for, table by table, with the counts that the first one gives (docs/TABLES.md); proofs/Theorem shows that all of it
-- together is `Sound` of the crate setup, no more and no less.
use Rattle.std.specs.Prelude.{ℕ, true, List, ◌≡◌, get_or, drop}
use Rattle.reading.specs.Encoding.{Zeros}
use Rattle.reading.specs.Counted.{Counted}
use Rattle.limits.specs.declared.Limits.{Limits}
use Rattle.book_tables.specs.Inner.Recognised.{BooksRecognised}
use Rattle.floor_tables.specs.Inner.Recognised.{FloorsRecognised}
use Rattle.residue.specs.Inner.FromTable.{books_of}
use Rattle.residue_tables.specs.Inner.Recognised.{ResiduesRecognised}
use Rattle.mapping.specs.declared.Known.{Known}
use Rattle.mapping_tables.specs.Inner.Recognised.{MappingsRecognised}
use Rattle.mode_tables.specs.Inner.Recognised.{ModesRecognised}
use Rattle.setup.specs.Layout.{Tables, has_room}

-- how many books, floors, residues, mappings and modes there are, each as its field can carry it; zeros behind them (003, 4.2.4)
pub record CountsRecognised (counts : List ℕ) : Type 0 where
  pub books : Counted 256 (get_or counts 0 0)
  pub floors : Counted 64 (get_or counts 1 0)
  pub residues : Counted 64 (get_or counts 2 0)
  pub mappings : Counted 64 (get_or counts 3 0)
  pub modes : Counted 64 (get_or counts 4 0)
  pub zeros : Zeros (drop 5 counts)

-- what a mapping is judged against, as the counts say it
abbrev pub known_by : ℕ → List ℕ → Known
known_by channels counts = record { channels = channels; floors = get_or counts 1 0; residues = get_or counts 2 0 }

-- books and floors
pub record FrontRecognised (limits : Limits) (counts books lengths codewords multiplicands floors : List ℕ) : Type 0 where
  pub book_tables : BooksRecognised limits (get_or counts 0 0) books lengths codewords multiplicands
  pub floor_table : FloorsRecognised (get_or counts 0 0) (get_or counts 1 0) floors

-- residues, which are judged against the books; mappings, against channels, floors and residues; modes, against the mappings
pub record BackRecognised (channels : ℕ) (counts books residues plans mappings modes : List ℕ) : Type 0 where
  pub residue_tables : ResiduesRecognised (books_of (get_or counts 0 0) books) (get_or counts 2 0) residues plans
  pub mapping_table : MappingsRecognised (known_by channels counts) (get_or counts 3 0) mappings
  pub mode_table : ModesRecognised (get_or counts 3 0) (get_or counts 4 0) modes

-- all ten tables
pub record PartsRecognised (limits : Limits) (channels : ℕ) (t : Tables) : Type 0 where
  pub room : has_room limits t ≡ true
  pub numbers : CountsRecognised t.counts
  pub front : FrontRecognised limits t.counts t.books t.lengths t.codewords t.multiplicands t.floors
  pub back : BackRecognised channels t.counts t.books t.residues t.plans t.mappings t.modes
