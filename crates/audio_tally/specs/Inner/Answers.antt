-- What the program's answer stands for.
use Rattle.std.specs.Prelude.{ℕ, Option, Some, None}
use Rattle.reading.specs.Outcome.{refusal, Outcome, ok, bad}
use Rattle.audio.specs.declared.Tally.{Tally}

-- the tally after a block and the samples it finishes, or 19
unfoldable pub counted_as : Option (Tally × ℕ) → Outcome (Tally × ℕ)
counted_as (Some x) = ok x
counted_as None = bad (refusal 19 0)
