-- `audio_tally::finished` meets its contract: none for a stream's first block, then two quarters. Assumes nothing.
use Rattle.std.proofs.lemmas.Bool.Decides.{nat_tests}
use native.Mathlib.Omega.{arith}
use Rattle.audio.specs.Tally.{finished}
use Rattle.audio_tally.proofs.finished.Goals as goal

pub returns-then-tally-eq0 : goal.returns-then-tally-eq0
unfolding finished
returns-then-tally-eq0 c = grind (arith, nat_tests)

pub returns-else-tally-eq0 : goal.returns-else-tally-eq0
unfolding finished
returns-else-tally-eq0 c = grind (arith, nat_tests)
