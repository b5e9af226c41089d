-- What is judged before the content of a setup packet, under a name of its own: the identity, the tables' room, and the packet's header. Nothing is
-- added to what `checked_part` judges.
use Rattle.std.specs.Prelude.{ℕ, Bool, List}
use Rattle.reading.specs.Outcome.{refusal, Outcome, need}
use Rattle.header.specs.Header.{common_header}
use Rattle.limits.specs.declared.Limits.{Limits}
use Rattle.identification.specs.declared.Identity.{Identity}
use Rattle.identification.specs.Sound.{is_sound}

-- where the content begins
unfoldable pub begun : Limits → Identity → Bool → List ℕ → Outcome ℕ
begun limits i room s = need (is_sound limits.channels i) (refusal 18 0) (need room (refusal 17 0) (common_header 5 s))
