-- `audio_channels::live::couple` meets its contract: both places are set where either channel is live. Assumes nothing.
use native.Mathlib.Omega.{arith}
use Rattle.std.proofs.lemmas.Bool.Decides.{nat_tests}
use Rattle.audio_channels.specs.Inner.Live.{coupled_bytes}
use Rattle.audio_channels.proofs.live.couple.Goals as goal

pub returns-then-live-magnitude-ne0 : goal.returns-then-live-magnitude-ne0
unfolding coupled_bytes
returns-then-live-magnitude-ne0 c = grind (arith, nat_tests)

pub returns-else-live-angle-ne0 : goal.returns-else-live-angle-ne0
unfolding coupled_bytes
returns-else-live-angle-ne0 c = grind (arith, nat_tests)
