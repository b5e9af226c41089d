-- WHAT AUDIO PACKETS ASK OF SOUND TABLES (01, "What the reader takes and gives"; refusal 18): each row is its content, and what a packet is read with lies in
-- the tables. All is of tables t and a content c; proofs/RowsLaws.antt shows it of every sound t and the content that t decodes to.
use Rattle.std.specs.Prelude.{ℕ, ◌+◌, ◌*◌, ◌≤◌, ◌<◌, ◌≡◌, length, get_or}
use Rattle.std.proofs.Math.Seq.{slice}
use Rattle.reading.specs.Counted.{Counted}
use Rattle.limits.specs.declared.Limits.{Limits}
use Rattle.book_codeword.specs.Inner.Stored.{lengths_in, dimensions_in, BookStored}
use Rattle.floor.specs.Content.{x_list, no_floor}
use Rattle.floor.specs.Layout.{floor_width, x_list_place}
use Rattle.floor_partition.specs.Inner.Stored.{Readable}
use Rattle.floor_values.specs.Inner.Stored.{floor_in, FloorStored}
use Rattle.residue.specs.Content.{Residue, no_residue}
use Rattle.residue.specs.declared.head.Head.{Head}
use Rattle.residue.specs.Inner.Decode.{head_at}
use Rattle.residue.specs.Inner.Heads.{head_of}
use Rattle.residue_pass.specs.Inner.Readable.{residue_in, residue_by, ResidueReadable}
use Rattle.mapping.specs.Content.{Mapping, no_submap, no_mapping}
use Rattle.mapping_row.specs.Inner.Readable.{mapping_in, MappingIs}
use Rattle.mode.specs.Content.{Mode, no_mode}
use Rattle.mode.specs.Layout.{mode_width}
use Rattle.setup.specs.Content.{Setup, lengths_of, dimensions_of}
use Rattle.setup.specs.Layout.{Tables}

-- how many there are of each kind
pub record CountsSound (t : Tables) (c : Setup) : Type 0 where
  pub books : get_or t.counts 0 0 ≡ length c.books
  pub floors : get_or t.counts 1 0 ≡ length c.floors
  pub residues : get_or t.counts 2 0 ≡ length c.residues
  pub mappings : get_or t.counts 3 0 ≡ length c.mappings
  pub modes : get_or t.counts 4 0 ≡ length c.modes
  pub book_count : Counted 256 (length c.books)
  pub floor_count : Counted 64 (length c.floors)
  pub residue_count : Counted 64 (length c.residues)
  pub mapping_count : Counted 64 (length c.mappings)
  pub mode_count : Counted 64 (length c.modes)

-- book number b
pub record BookSound (t : Tables) (b : ℕ) : Type 0 where
  pub stored : BookStored t.books t.lengths t.codewords b
  pub some_dimension : 1 ≤ dimensions_in t.books b

-- floor number n
pub record FloorSound (t : Tables) (c : Setup) (n : ℕ) : Type 0 where
  pub stored : FloorStored t.floors t.books t.lengths t.codewords n
  pub content : floor_in t.floors n ≡ get_or c.floors n no_floor
  -- its row holds the whole X list, the two implied X included, and its length
  pub x_count : get_or t.floors (floor_width * n + 4) 0 ≡ length (x_list (floor_in t.floors n).rangebits (floor_in t.floors n).xs)
  pub x_list_there : slice (floor_width * n + x_list_place) (floor_width * n + x_list_place + get_or t.floors (floor_width * n + 4) 0) t.floors
      ≡ x_list (floor_in t.floors n).rangebits (floor_in t.floors n).xs

-- residue number n is r, by its row and however its fields before the plan were read
pub record ResidueSound (t : Tables) (n : ℕ) (r : Residue) : Type 0 where
  pub content : residue_in t.residues t.plans n ≡ r
  pub content_by : (h : Head) → head_of h ≡ head_at t.residues n → residue_by h t.plans n ≡ r
  pub readable : (h : Head) → head_of h ≡ head_at t.residues n → ResidueReadable t.books t.lengths t.codewords t.plans n h

-- mapping number n is m, and the floor and the residue of each submap are set up
pub record MappingSound (channels : ℕ) (t : Tables) (c : Setup) (n : ℕ) (m : Mapping) : Type 0 where
  pub is : MappingIs channels t.mappings n m
  pub content : mapping_in t.mappings n ≡ m
  pub floor_set_up : (j : ℕ) → j < length m.submaps → (get_or m.submaps j no_submap).floor < length c.floors
  pub residue_set_up : (j : ℕ) → j < length m.submaps → (get_or m.submaps j no_submap).residue < length c.residues

-- mode number n is m, and its mapping is set up
pub record ModeSound (t : Tables) (c : Setup) (n : ℕ) (m : Mode) : Type 0 where
  pub blockflag : get_or t.modes (mode_width * n) 0 ≡ m.blockflag
  pub mapping : get_or t.modes (mode_width * n + 1) 0 ≡ m.mapping
  pub blockflag_low : m.blockflag < 2
  pub mapping_set_up : m.mapping < length c.mappings

-- ALL OF IT
pub record RowsReadable (limits : Limits) (channels : ℕ) (t : Tables) (c : Setup) : Type 0 where
  pub counts : CountsSound t c
  -- of every number, set up or not
  pub lengths : lengths_in t.books t.lengths ≡ lengths_of c
  pub dimensions : dimensions_in t.books ≡ dimensions_of c
  pub books : (b : ℕ) → b < length c.books → BookSound t b
  -- an entry's number fits 16 bits: 01's limit is 8,192
  pub readable : limits.book_entries ≤ 65536 → (b : ℕ) → b < length c.books → Readable t.books t.lengths t.codewords b
  pub floors : limits.book_entries ≤ 65536 → (n : ℕ) → n < length c.floors → FloorSound t c n
  pub residues : (n : ℕ) → n < length c.residues → ResidueSound t n (get_or c.residues n no_residue)
  pub mappings : (n : ℕ) → n < length c.mappings → MappingSound channels t c n (get_or c.mappings n no_mapping)
  pub modes : (n : ℕ) → n < length c.modes → ModeSound t c n (get_or c.modes n no_mode)
