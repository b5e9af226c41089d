-- What the program does to the lines and to its progress when it takes records: statements that its contracts share. `t` are the ten tables, `input` the bytes
-- that were read and `lines` the lent buffer; a mark ' is for what is left.
use Rattle.std.specs.Prelude.{ℕ, ◌+◌, ◌≤◌, ◌<◌, true, false, List, [], ◌++◌, ◌⊎◌, ◌≡◌, length, drop}
use Rattle.std.proofs.lemmas.List.Edits.{sets}
use Rattle.setup.specs.Layout.{Tables}
use Rattle.records.specs.declared.Front.TheVariants.{Partial}
use Rattle.records.specs.Inner.Fronts.{front}
use Rattle.record_step.specs.Step.{Stream}
use Rattle.record_step.specs.Inner.Kept.{stream_of, StartsWith}
use Rattle.record_progress.specs.Report.{report}
use Rattle.record_lines.specs.Lines.{torn_line, end_line}
use Rattle.record_progress.specs.Inner.Progress.{lines_left}
use Rattle.record_progress.specs.Inner.Session.{Session}
use Rattle.record_progress.specs.declared.Progress.{Progress}

-- the greatest number of records that the program takes: one more can still be named in a line
abbrev pub most_records : ℕ
most_records = 18446744073709551614

-- before the first record: what is left to write is the whole output, and a run from here puts it, in whatever pieces the input comes
pub record Starts (p : Progress) : Type 0 where
  pub kept : StartsWith p.kept
  pub all : (t : Tables) (s : List ℕ) → lines_left p.skip (stream_of p.kept t) p.number s ≡ report s
  pub whole : (t : Tables) (come out : List ℕ) → Session p.skip (stream_of p.kept t) p.number [] come out → out ≡ report come
  pub number : p.number ≡ 0
  pub from : p.from ≡ 0
  pub ends : p.lines_end ≡ 0

-- a record may be taken: there is room for a line, and a number for it
pub record Room (p : Progress) (input lines : List ℕ) : Type 0 where
  pub inside : p.from ≤ length input
  pub line : p.lines_end + 128 ≤ length lines
  pub number : p.number < most_records

-- THE LINES: a text was put into the buffer, and it is what was to be written before what is still left, whatever follows the bytes that were read
pub record Taken (p : Progress) (t : Tables) (input lines : List ℕ) (p' : Progress) (t' : Tables) (lines' : List ℕ) : Type 0 where
  pub text : List ℕ
  pub put : lines' ≡ sets lines p.lines_end text
  pub ends : p'.lines_end ≡ p.lines_end + length text
  pub left : (rest : List ℕ) → lines_left p.skip (stream_of p.kept t) p.number (drop p.from input ++ rest)
      ≡ text ++ lines_left p'.skip (stream_of p'.kept t') p'.number (drop p'.from input ++ rest)

-- more of the input is needed: less than a record is there, or nothing of a body that is passed over
abbrev pub Needs : Progress → List ℕ → Type 0
Needs p input = ((p.skip ≡ 0) × (Partial ≡ front (drop p.from input))) ⊎ ((0 < p.skip) × (p.from ≡ length input))

-- where the progress after it lies: within the input and the lines
pub record Within (p : Progress) (input lines : List ℕ) : Type 0 where
  pub inside : p.from ≤ length input
  pub ends : p.lines_end ≤ length lines
  pub number : p.number ≤ most_records
  pub needs : p.waiting ≡ true → Needs p input

-- a turn that does not wait passes a byte at the least
abbrev pub Moves : Progress → Progress → Type 0
Moves p p' = p'.waiting ≡ false → p.from < p'.from

-- the progress where less than a record is there
abbrev pub waits : Progress → Progress
waits p = record { kept = p.kept; number = p.number; skip = 0; from = p.from; lines_end = p.lines_end; waiting = true }

-- the progress behind the head of a record whose body is too long
abbrev pub skips : Progress → ℕ → Progress
skips p n = record { kept = p.kept; number = p.number; skip = n; from = p.from + 6; lines_end = p.lines_end; waiting = false }

-- the lines at the end of an input that ends inside a record, after n whole ones
unfoldable pub torn_end : ℕ → List ℕ
torn_end n = torn_line (n + 1) ++ end_line n

-- the last lines may be put
pub record LastRoom (p : Progress) (input lines : List ℕ) : Type 0 where
  pub inside : p.from ≤ length input
  pub room : p.lines_end + 256 ≤ length lines
  pub number : p.number ≤ most_records
  pub needs : Needs p input

-- THE LAST LINES: what is left to write where nothing follows the bytes that were read, whatever stream it is
pub record LastPut (p : Progress) (input lines : List ℕ) (end : ℕ) (lines' : List ℕ) : Type 0 where
  pub put : (x : Stream) → lines' ≡ sets lines p.lines_end (lines_left p.skip x p.number (drop p.from input))
  pub ends : (x : Stream) → end ≡ p.lines_end + length (lines_left p.skip x p.number (drop p.from input))
  pub inside : end ≤ length lines

-- another record may be taken
pub record MayGoOn (p : Progress) (places : ℕ) : Type 0 where
  pub here : p.waiting ≡ false
  pub number : p.number < most_records
  pub line : p.lines_end + 128 ≤ places
