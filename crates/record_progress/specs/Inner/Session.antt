-- A whole run, whatever pieces its input comes in: records are taken, bytes are read, and at the end the last lines are put. `skip`, `x` and `n` are how far the
-- program has come (specs/Inner/Progress.antt), `s` the bytes that it has read and not taken, `come` those that are still to come, `out` all that it puts.
use Rattle.std.specs.Prelude.{ℕ, List, [], ◌++◌, ◌≡◌}
use Rattle.record_step.specs.Step.{Stream}
use Rattle.record_progress.specs.Inner.Progress.{lines_left}

pub data Session : ℕ → Stream → ℕ → List ℕ → List ℕ → List ℕ → Type 0 where
  -- a taking puts a text, as `Taken` has it
  taking : (skip : ℕ) (x : Stream) (n : ℕ) (s : List ℕ) (skip' : ℕ) (x' : Stream) (n' : ℕ) (s' text come out : List ℕ)
      → ((rest : List ℕ) → lines_left skip x n (s ++ rest) ≡ text ++ lines_left skip' x' n' (s' ++ rest))
      → Session skip' x' n' s' come out → Session skip x n s come (text ++ out)
  -- a read adds bytes behind those that are left
  reading : (skip : ℕ) (x : Stream) (n : ℕ) (s bytes come out : List ℕ) → Session skip x n (s ++ bytes) come out → Session skip x n s (bytes ++ come) out
  -- at the input's end the last lines are put, as `LastPut` has it
  ending : (skip : ℕ) (x : Stream) (n : ℕ) (s : List ℕ) → Session skip x n s [] (lines_left skip x n s)
