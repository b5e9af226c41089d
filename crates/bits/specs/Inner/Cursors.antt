-- What the program's positions and answers stand for.
use Rattle.std.specs.Prelude.{ℕ, ◌+◌, ◌*◌, ◌≡◌, Result, Ok, Err}
use Rattle.reading.specs.Outcome.{refusal, Outcome, ok, bad, then}
use Rattle.reading.specs.Outcome as O
use Rattle.bits.specs.declared.Cursor.{Cursor}
use Rattle.bits.specs.declared.refusal.Refusal.{Refusal}
use Rattle.bits.specs.Reasons.{number}

-- a cursor's bit, counted from the packet's first
abbrev pub position : Cursor → ℕ
position c = 8 * c.byte + c.bit

abbrev pub refusal_of : Refusal → O.Refusal
refusal_of z = refusal (number z.reason) (position z.place)

-- what was read and the position behind it, or the refusal
unfoldable pub outcome : {A : Type 0} → Result (A × Cursor) Refusal → Outcome (A × ℕ)
outcome (Ok x) = ok (x.0, position x.1)
outcome (Err z) = bad (refusal_of z)

-- the position alone, or the refusal
unfoldable pub stepped : Result Cursor Refusal → Outcome ℕ
stepped (Ok c) = ok (position c)
stepped (Err z) = bad (refusal_of z)

-- a function that answers r has read what o says; where that is a value, it is t: what was written into buffers, say.
-- Of buffers nothing is claimed on a refusal: the outermost function clears them all
pub record Wrote {T : Type 0} (o : Outcome (T × ℕ)) (r : Result Cursor Refusal) (t : T) : Type 0 where
  pub step : stepped r ≡ then o (λ x. ok x.1)
  pub value : (x : T × ℕ) → o ≡ ok x → x.0 ≡ t
