-- What the program's answers stand for.
use Rattle.std.specs.Prelude.{Result, Ok, Err}
use Rattle.reading.specs.Outcome.{Outcome, ok, bad}
use Rattle.bits.specs.declared.refusal.Refusal.{Refusal}
use Rattle.bits.specs.Inner.Cursors.{refusal_of}
use Rattle.identification.specs.declared.Identity.{Identity}

unfoldable pub identified : Result Identity Refusal → Outcome Identity
identified (Ok i) = ok i
identified (Err z) = bad (refusal_of z)
