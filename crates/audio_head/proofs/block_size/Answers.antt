-- `audio_head::block_size` meets its contract: one of two sizes. Assumes nothing.
use native.Mathlib.Omega.{arith}
use Rattle.std.proofs.lemmas.Bool.Decides.{nat_tests}
use Rattle.audio.specs.Head.{block_size}
use Rattle.audio_head.proofs.block_size.Goals as goal

pub returns-then-blockflag-eq0 : goal.returns-then-blockflag-eq0
unfolding block_size
returns-then-blockflag-eq0 c = grind (arith, nat_tests)

pub returns-else-blockflag-eq0 : goal.returns-else-blockflag-eq0
unfolding block_size
returns-else-blockflag-eq0 c = grind (arith, nat_tests)
