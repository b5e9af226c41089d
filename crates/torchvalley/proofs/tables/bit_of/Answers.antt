-- `torchvalley::tables::bit_of` meets its contract, by SetupLaws. Assumes nothing.
use Rattle.torchvalley.proofs.SetupLaws.{bit_is}
use Rattle.torchvalley.proofs.tables.bit_of.Goals as goal

pub returns : goal.returns
returns c = bit_is _ _
