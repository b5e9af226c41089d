-- `codespace::space::empty_space` meets its contract: 32 vacant places, and one block of height 32. Assumes nothing.
use mathlib.Core.Path.{refl}
use Rattle.codespace.specs.Inner.Blocks.{empty_blocks}
use Rattle.codespace.proofs.Claimed.{reached_start}
use Rattle.codespace.proofs.space.empty_space.Goals as goal

pub returns : goal.returns
unfolding empty_blocks
returns c = (refl, reached_start)
