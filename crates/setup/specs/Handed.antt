-- The ten tables as a contract names them: lent together, or slice by slice as C hands them in; what a call was handed and has left.
use Rattle.std.specs.Prelude.{ℕ, List, ◌≡◌, length}
use Rattle.std.specs.Borrow.{Bor, MutBor}
use denote.Triple.Both.{Both}
use Rattle.setup.specs.Layout.{Tables, tables}
use Rattle.setup.specs.declared.lent.LentTables.{LentTables}
use Rattle.setup.specs.declared.lent.LentTablesMut.{LentTablesMut}

-- what tables hold that are lent to be read
abbrev pub held : LentTables → Tables
held t = tables t.counts.now t.books.now t.lengths.now t.codewords.now t.multiplicands.now t.floors.now t.residues.now t.plans.now t.mappings.now t.modes.now

-- and that are lent to be written
abbrev pub held_mut : LentTablesMut → Tables
held_mut t = tables t.counts.now t.books.now t.lengths.now t.codewords.now t.multiplicands.now t.floors.now t.residues.now t.plans.now t.mappings.now t.modes.now

-- tables as long as others
pub record SameLengths (t u : Tables) : Type 0 where
  pub counts : length t.counts ≡ length u.counts
  pub books : length t.books ≡ length u.books
  pub lengths : length t.lengths ≡ length u.lengths
  pub codewords : length t.codewords ≡ length u.codewords
  pub multiplicands : length t.multiplicands ≡ length u.multiplicands
  pub floors : length t.floors ≡ length u.floors
  pub residues : length t.residues ≡ length u.residues
  pub plans : length t.plans ≡ length u.plans
  pub mappings : length t.mappings ≡ length u.mappings
  pub modes : length t.modes ≡ length u.modes

-- a call that was lent `old` by `&mut` leaves the same slices there, as long as they were, whatever they hold now
pub record StaysLent (old new : LentTablesMut) : Type 0 where
  pub counts : new.counts.ghost_name ≡ old.counts.ghost_name
  pub books : new.books.ghost_name ≡ old.books.ghost_name
  pub lengths : new.lengths.ghost_name ≡ old.lengths.ghost_name
  pub codewords : new.codewords.ghost_name ≡ old.codewords.ghost_name
  pub multiplicands : new.multiplicands.ghost_name ≡ old.multiplicands.ghost_name
  pub floors : new.floors.ghost_name ≡ old.floors.ghost_name
  pub residues : new.residues.ghost_name ≡ old.residues.ghost_name
  pub plans : new.plans.ghost_name ≡ old.plans.ghost_name
  pub mappings : new.mappings.ghost_name ≡ old.mappings.ghost_name
  pub modes : new.modes.ghost_name ≡ old.modes.ghost_name
  pub long : SameLengths (held_mut new) (held_mut old)

-- a slice of numbers that is lent to be written, before the call and after it
abbrev pub Slice : Type 0
Slice = Both (MutBor (List ℕ)) (MutBor (List ℕ))

-- a slice of numbers that is lent to be read
abbrev pub Shared : Type 0
Shared = Both (Bor (List ℕ)) (Bor (List ℕ))

-- what was handed in
abbrev pub handed : Slice → Slice → Slice → Slice → Slice → Slice → Slice → Slice → Slice → Slice → Tables
handed counts books lengths codewords multiplicands floors residues plans mappings modes =
    tables
    counts.entry.now
    books.entry.now
    lengths.entry.now
    codewords.entry.now
    multiplicands.entry.now
    floors.entry.now
    residues.entry.now
    plans.entry.now
    mappings.entry.now
    modes.entry.now

-- the same of tables that a call only reads
abbrev pub shared : Shared → Shared → Shared → Shared → Shared → Shared → Shared → Shared → Shared → Shared → Tables
shared counts books lengths codewords multiplicands floors residues plans mappings modes =
    tables
    counts.entry.now
    books.entry.now
    lengths.entry.now
    codewords.entry.now
    multiplicands.entry.now
    floors.entry.now
    residues.entry.now
    plans.entry.now
    mappings.entry.now
    modes.entry.now

-- what is left there
abbrev pub left_in : Slice → Slice → Slice → Slice → Slice → Slice → Slice → Slice → Slice → Slice → Tables
left_in counts books lengths codewords multiplicands floors residues plans mappings modes =
    tables
    counts.exit.now
    books.exit.now
    lengths.exit.now
    codewords.exit.now
    multiplicands.exit.now
    floors.exit.now
    residues.exit.now
    plans.exit.now
    mappings.exit.now
    modes.exit.now
