-- What is known of sound tables, table by table: the content is valid, each table has room, and holds its part of the content. Assumes nothing.
use Prim.Native.Nat.{ℕ}
use mathlib.Core.Path.{◌≡◌, ap}
use lib.ListN.{length}
use Rattle.reading.specs.Lists.{rows}
use Rattle.reading.specs.Pad.{pad}
use Rattle.limits.specs.declared.Limits.{Limits}
use Rattle.book.specs.Rows.{book_rows, all_lengths, all_codewords, all_multiplicands}
use Rattle.floor.specs.Layout.{floor_row}
use Rattle.residue.specs.Layout.{head_row, plan_table}
use Rattle.mapping.specs.Layout.{mapping_row}
use Rattle.mode.specs.Layout.{mode_row}
use Rattle.setup.specs.Content.{Setup}
use Rattle.setup.specs.Layout.{Tables, layout, written_out}
use Rattle.setup.specs.Inner.Valid.{ValidSetup}
use Rattle.setup.specs.Sound.{Sound}
use Rattle.setup.proofs.RuleLaws.{sound_valid}
use Rattle.setup.proofs.TableLaws.{RoomParts, room_parts}
use Rattle.setup.proofs.CountsLaws.{Five, written_five}

pub record WrittenParts (t : Tables) (c : Setup) : Type 0 where
  pub counts : Five t.counts (length c.books) (length c.floors) (length c.residues) (length c.mappings) (length c.modes)
  pub books : t.books ≡ pad (length t.books) (book_rows (record { entries = 0; values = 0 }) c.books)
  pub lengths : t.lengths ≡ pad (length t.lengths) (all_lengths c.books)
  pub codewords : t.codewords ≡ pad (length t.codewords) (all_codewords c.books)
  pub multiplicands : t.multiplicands ≡ pad (length t.multiplicands) (all_multiplicands c.books)
  pub floors : t.floors ≡ pad (length t.floors) (rows floor_row c.floors)
  pub residues : t.residues ≡ pad (length t.residues) (rows head_row c.residues)
  pub plans : t.plans ≡ pad (length t.plans) (rows plan_table c.residues)
  pub mappings : t.mappings ≡ pad (length t.mappings) (rows mapping_row c.mappings)
  pub modes : t.modes ≡ pad (length t.modes) (rows mode_row c.modes)

pub record SoundFacts (limits : Limits) (channels : ℕ) (t : Tables) (c : Setup) : Type 0 where
  pub valid : ValidSetup limits channels c
  pub room : RoomParts limits t
  pub written : WrittenParts t c

pub sound_facts : {limits : Limits} {channels : ℕ} {t : Tables} (x : Sound limits channels t) → SoundFacts limits channels t x.content
unfolding written_out layout
sound_facts {limits} {channels} {t} x =
    let room = room_parts limits t x.room in
    record {
      valid = sound_valid x;
      room = room;
      written = record {
        counts = written_five t.counts _ _ _ _ _ room.counts (ap (λ (u : Tables). u.counts) x.written);
        books = ap (λ (u : Tables). u.books) x.written;
        lengths = ap (λ (u : Tables). u.lengths) x.written;
        codewords = ap (λ (u : Tables). u.codewords) x.written;
        multiplicands = ap (λ (u : Tables). u.multiplicands) x.written;
        floors = ap (λ (u : Tables). u.floors) x.written;
        residues = ap (λ (u : Tables). u.residues) x.written;
        plans = ap (λ (u : Tables). u.plans) x.written;
        mappings = ap (λ (u : Tables). u.mappings) x.written;
        modes = ap (λ (u : Tables). u.modes) x.written;
      };
    }
