-- `audio_channels::extent::vector_count` meets its contract: type 2 is read if any channel is live. Assumes nothing.
use native.Mathlib.Omega.{arith}
use Rattle.std.proofs.lemmas.Bool.Decides.{nat_tests}
use Rattle.audio.specs.Channels.{vector_count}
use Rattle.audio_channels.proofs.extent.vector_count.Goals as goal

pub returns-then-head-eq2 : goal.returns-then-head-eq2
unfolding vector_count
returns-then-head-eq2 c = grind (arith, nat_tests)

pub returns-else-head-eq2 : goal.returns-else-head-eq2
unfolding vector_count
returns-else-head-eq2 c = grind (arith, nat_tests)
