-- `audio_tally::is_sound` meets its contract: the three tests are the definition's. Assumes nothing.
use Rattle.std.proofs.lemmas.Bool.Decides.{nat_tests}
use native.Mathlib.Omega.{arith}
use Rattle.audio.specs.Tally.{tally_sound}
use Rattle.audio_tally.proofs.is_sound.Goals as goal

pub returns-then-tally-identity : goal.returns-then-tally-identity
unfolding tally_sound
returns-then-tally-identity c = grind (arith, nat_tests)

pub returns-else-tally-identity : goal.returns-else-tally-identity
unfolding tally_sound
returns-else-tally-identity c = grind (arith, nat_tests)
