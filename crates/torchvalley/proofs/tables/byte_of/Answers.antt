-- `torchvalley::tables::byte_of` meets its contract, by SetupLaws. Assumes nothing.
use Rattle.torchvalley.proofs.SetupLaws.{byte_is}
use Rattle.torchvalley.proofs.tables.byte_of.Goals as goal

pub returns : goal.returns
returns c = byte_is _ _
