-- `torchvalley::torchvalley_identity_sound` meets its contract: the test below, at the standard limits. Assumes nothing.
use Rattle.torchvalley.proofs.Laws.{door_laws}
use Rattle.torchvalley.proofs.torchvalley_identity_sound.Goals as goal

pub standard-requires : goal.standard-requires
standard-requires c = search door_laws

pub is_sound-requires : goal.is_sound-requires
is_sound-requires c = search door_laws

pub returns : goal.returns
returns c = search door_laws
