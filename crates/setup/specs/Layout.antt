-- The tables of a setup: each buffer's list, its fixed need, and the buffers with a content written out (docs/TABLES.md; 01, "What the reader takes and gives").
use Rattle.std.specs.Prelude.{ℕ, Bool, ◌&&◌, List, [], ◌∷◌, leb, length, replicate}
use Rattle.reading.specs.Lists.{rows}
use Rattle.reading.specs.Pad.{pad}
use Rattle.limits.specs.declared.Limits.{Limits}
use Rattle.book.specs.Layout.{books_need}
use Rattle.book.specs.Rows.{book_rows, all_lengths, all_codewords, all_multiplicands}
use Rattle.floor.specs.Layout.{floors_need, floor_row}
use Rattle.residue.specs.Layout.{residues_need, plans_need, head_row, plan_table}
use Rattle.mapping.specs.Layout.{mappings_need, mapping_row}
use Rattle.mode.specs.Layout.{modes_need, mode_row}
use Rattle.setup.specs.Content.{Setup}

pub record Tables : Type 0 where
  -- how many books, floors, residues, mappings and modes there are
  pub counts : List ℕ
  pub books : List ℕ
  pub lengths : List ℕ
  pub codewords : List ℕ
  pub multiplicands : List ℕ
  pub floors : List ℕ
  pub residues : List ℕ
  pub plans : List ℕ
  pub mappings : List ℕ
  pub modes : List ℕ

-- THE WRITING-OUT of a content
unfoldable pub layout : Setup → Tables
layout c =
    record {
      counts = length c.books ∷ length c.floors ∷ length c.residues ∷ length c.mappings ∷ length c.modes ∷ [];
      books = book_rows (record { entries = 0; values = 0 }) c.books;
      lengths = all_lengths c.books;
      codewords = all_codewords c.books;
      multiplicands = all_multiplicands c.books;
      floors = rows floor_row c.floors;
      residues = rows head_row c.residues;
      plans = rows plan_table c.residues;
      mappings = rows mapping_row c.mappings;
      modes = rows mode_row c.modes;
    }

-- the fixed need of each buffer (01, refusal 17)
unfoldable pub has_room : Limits → Tables → Bool
has_room limits t =
    leb 5 (length t.counts)
    && (leb books_need (length t.books)
    && (leb limits.entries (length t.lengths)
    && (leb limits.entries (length t.codewords)
    && (leb limits.multiplicands (length t.multiplicands)
    && (leb floors_need (length t.floors)
    && (leb residues_need (length t.residues)
    && (leb plans_need (length t.plans)
    && (leb mappings_need (length t.mappings)
    && leb modes_need (length t.modes)))))))))

-- the lent buffers with a content written out: its lists, and zeros behind them, whatever was lent
unfoldable pub written_out : Setup → Tables → Tables
written_out c t =
    record {
      counts = pad (length t.counts) (layout c).counts;
      books = pad (length t.books) (layout c).books;
      lengths = pad (length t.lengths) (layout c).lengths;
      codewords = pad (length t.codewords) (layout c).codewords;
      multiplicands = pad (length t.multiplicands) (layout c).multiplicands;
      floors = pad (length t.floors) (layout c).floors;
      residues = pad (length t.residues) (layout c).residues;
      plans = pad (length t.plans) (layout c).plans;
      mappings = pad (length t.mappings) (layout c).mappings;
      modes = pad (length t.modes) (layout c).modes;
    }

-- the lent buffers with nothing in them
unfoldable pub cleared : Tables → Tables
cleared t =
    record {
      counts = replicate (length t.counts) 0;
      books = replicate (length t.books) 0;
      lengths = replicate (length t.lengths) 0;
      codewords = replicate (length t.codewords) 0;
      multiplicands = replicate (length t.multiplicands) 0;
      floors = replicate (length t.floors) 0;
      residues = replicate (length t.residues) 0;
      plans = replicate (length t.plans) 0;
      mappings = replicate (length t.mappings) 0;
      modes = replicate (length t.modes) 0;
    }

-- the ten buffers as the program has them
abbrev pub tables : List ℕ → List ℕ → List ℕ → List ℕ → List ℕ → List ℕ → List ℕ → List ℕ → List ℕ → List ℕ → Tables
tables counts books lengths codewords multiplicands floors residues plans mappings modes =
    record {
      counts = counts;
      books = books;
      lengths = lengths;
      codewords = codewords;
      multiplicands = multiplicands;
      floors = floors;
      residues = residues;
      plans = plans;
      mappings = mappings;
      modes = modes;
    }
