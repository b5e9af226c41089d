-- `setup_buffers::settle` meets its contract, by SettledLaws. Assumes nothing.
use Rattle.setup_buffers.proofs.SettledLaws.{settled_next, settled_refused}
use Rattle.setup_buffers.proofs.settle.Goals as goal

pub returns-in-Ok-clause-left : goal.returns-in-Ok-clause-left
returns-in-Ok-clause-left c = search settled_next

pub returns-in-Err-clause-left : goal.returns-in-Err-clause-left
returns-in-Err-clause-left c = settled_refused _ _ c.in-Err.is c.clear.ensures.after
