-- LATER CALLS, which are handed an identity and tables, each as one equation of what was handed in (01, "What the reader takes and gives"). A fault that no
-- field has carries place 0.
use Rattle.reading.specs.Outcome.{refusal, Outcome, need}
use Rattle.limits.specs.declared.Limits.{Limits}
use Rattle.identification.specs.declared.Identity.{Identity}
use Rattle.setup.specs.Content.{Setup}
use Rattle.setup.specs.Layout.{Tables}
use Rattle.setup.specs.Inner.Decode.{decode_setup}
use Rattle.setup.specs.SoundTest.{sound_test}

-- EVERY LATER CALL: 18 where identity or tables are not sound; else what it answers by the content of the tables, which is one alone
module _ {A : Type 0} where
  unfoldable pub later_call : Limits → Identity → Tables → (Setup → Outcome A) → Outcome A
  later_call limits i t answer = need (sound_test limits i t) (refusal 18 0) (answer (decode_setup t))
