-- `audio_channels::extent::vector_size` meets its contract: type 2 has all channels in one vector. Assumes nothing.
use native.Mathlib.Omega.{arith}
use Rattle.std.proofs.lemmas.Bool.Decides.{nat_tests}
use Rattle.audio.specs.Channels.{vector_size}
use Rattle.audio_channels.proofs.extent.vector_size.Goals as goal

pub returns-then-head-eq2 : goal.returns-then-head-eq2
unfolding vector_size
returns-then-head-eq2 c = grind (arith, nat_tests)

pub returns-else-head-eq2 : goal.returns-else-head-eq2
unfolding vector_size
returns-else-head-eq2 c = grind (arith, nat_tests)
