-- THE SETUP CALL: any identity, any bytes, any lent tables (01, "Order": 18 first, then 17 for the tables, then the first fault in reading order).
use Rattle.std.specs.Prelude.{ℕ, List}
use Rattle.reading.specs.Outcome.{refusal, Outcome, ok, bad, need}
use Rattle.limits.specs.declared.Limits.{Limits}
use Rattle.identification.specs.declared.Identity.{Identity}
use Rattle.identification.specs.Sound.{is_sound}
use Rattle.setup.specs.Content.{Setup}
use Rattle.setup.specs.Reading.{setup}
use Rattle.setup.specs.Layout.{Tables, has_room, written_out, cleared}

-- a fault of what was handed in beside the packet has its place at the packet's first bit
unfoldable pub setup_of : Limits → Identity → List ℕ → Tables → Outcome Setup
setup_of limits i s t = need (is_sound limits.channels i) (refusal 18 0) (need (has_room limits t) (refusal 17 0) (setup limits i.channels s))

-- what a call leaves behind: 0 or a refusal's number, and the lent tables
pub record Left : Type 0 where
  pub number : ℕ
  pub tables : Tables

abbrev pub left : ℕ → Tables → Left
left number tables = record { number = number; tables = tables }

-- accepted: the content written out. Refused: the number alone, and every table all zero
unfoldable pub answered : Outcome Setup → Tables → Left
answered (ok c) t = left 0 (written_out c t)
answered (bad z) t = left z.number (cleared t)

unfoldable pub setup_call : Limits → Identity → List ℕ → Tables → Left
setup_call limits i s t = answered (setup_of limits i s t) t
