-- What the run does between takings: room for more bytes, a read, what a turn comes to. Statements that its contracts share.
use Rattle.std.specs.Prelude.{ℕ, ◌≤◌, ◌<◌, false, List, ◌++◌, ◌≡◌, length, take, drop}
use Rattle.std.specs.declared.ops.ControlFlow.{ControlFlow}
use Rattle.std.specs.ControlFlow.{MatchControlFlow}
use Rattle.record_progress.specs.Inner.Taken.{Room, Within}
use Rattle.record_turn.specs.declared.feeding.Span.{Span}
use Rattle.record_turn.specs.declared.Status.{Status}
use Rattle.record_progress.specs.declared.Progress.{Progress}

-- there is a place behind the bytes that are left, and these are the same
pub record RoomMade (input : List ℕ) (from to : ℕ) (r : Span) (input' : List ℕ) : Type 0 where
  pub order : r.from ≤ r.to
  pub room : r.to < length input'
  pub same : drop r.from (take r.to input') ≡ drop from (take to input)
  pub long : length input' ≡ length input

-- records were taken from the first `to` bytes
pub record Reads (p : Progress) (to : ℕ) (input lines : List ℕ) : Type 0 where
  pub within : Within p (take to input) lines
  pub inside : to ≤ length input
  pub of_input : length input ≡ 65536
  pub of_lines : length lines ≡ 65536

-- the progress with which the run goes on, with the bytes from `from` on and without lines
abbrev pub goes_on : Progress → ℕ → Progress
goes_on p from = record { kept = p.kept; number = p.number; skip = p.skip; from = from; lines_end = 0; waiting = false }

-- the run has come as far as before, and the bytes that are left are those that were left, with what was read behind them
pub record Continues (p : Progress) (to : ℕ) (input : List ℕ) (q : Progress) (end : ℕ) (input' : List ℕ) : Type 0 where
  pub bytes : List ℕ
  pub left : drop q.from (take end input') ≡ drop p.from (take to input) ++ bytes
  pub skip : q.skip ≡ p.skip
  pub number : q.number ≡ p.number

-- a turn after which the run goes on keeps what is kept; there was a turn left, and a record may be taken from the first `end` bytes
pub record GoesOn (p : Progress) (to turns : ℕ) (input : List ℕ) (q : Progress) (end : ℕ) (input' lines' : List ℕ) : Type 0 where
  pub same : q.kept ≡ p.kept
  pub more : 0 < turns
  pub inside : end ≤ length input'
  pub room : Room q (take end input') lines'
  pub continues : Continues p to input q end input'

abbrev pub Turned : Progress → ℕ → ℕ → List ℕ → ControlFlow Status (Progress × ℕ) → List ℕ → List ℕ → Type 0
Turned p to turns input r input' lines' = MatchControlFlow r (λ next. GoesOn p to turns input next.0 next.1 input' lines') (λ _. Unit {0})
