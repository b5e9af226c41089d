-- What a program's answer stands for where beside it something lies in buffers: the two together, as f says of the answer.
use Rattle.std.specs.Prelude.{ℕ, Result, Ok, Err}
use Rattle.reading.specs.Outcome.{Outcome, ok, bad}
use Rattle.bits.specs.declared.Cursor.{Cursor}
use Rattle.bits.specs.declared.refusal.Refusal.{Refusal}
use Rattle.bits.specs.Inner.Cursors.{position, refusal_of}

unfoldable pub answered : {A T : Type 0} → (A → T) → Result (A × Cursor) Refusal → Outcome (T × ℕ)
answered f (Ok x) = ok (f x.0, position x.1)
answered f (Err z) = bad (refusal_of z)
