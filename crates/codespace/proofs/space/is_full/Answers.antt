-- `codespace::space::is_full` meets its contract: there is no block at all exactly where a length of 32 is refused. Assumes nothing.
use Rattle.codespace.proofs.Numbers.{full_is}
use Rattle.codespace.proofs.space.is_full.Goals as goal

pub returns : goal.returns
returns c = full_is _ _ c.requires c.smallest_block.ensures
