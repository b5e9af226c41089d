-- A field, read or judged, is a value or a refusal whose number is not 0. Assumes nothing.
use Prim.Native.Nat.{ℕ, ◌+◌, ◌*◌, ◌≤◌}
use native.Mathlib.Omega.{arith}
use mathlib.Core.Bool.{Bool}
use mathlib.Core.List.{List}
use lib.Dec.{leb}
use lib.ListN.{length}
use Rattle.reading.specs.Outcome.{refusal}
use Rattle.reading.specs.Reader.{judged}
use Rattle.reading.proofs.Outcomes.{Numbered, value, need_numbered, judged_numbered}
use Rattle.bits.specs.Field.{value_at, field}

pub field_numbered : (w : ℕ) (s : List ℕ) (k : ℕ) → Numbered (field w s k)
unfolding field
field_numbered w s k = need_numbered (leb (k + w) (8 * length s)) (refusal 1 k) (omega arith) (value (value_at s k w, k + w))

pub judged-field : (test : ℕ → Bool) (n w : ℕ) (s : List ℕ) (k : ℕ) → 1 ≤ n → Numbered (judged test n (field w) s k)
judged-field test n w s k h = judged_numbered test n (field w) s k h (field_numbered w s k)
