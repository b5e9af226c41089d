-- `torchvalley::torchvalley_identification` meets its contract: one law for each way out, and beside it that 0 stands for a sound identity alone. Assumes
-- nothing.
use Rattle.torchvalley.proofs.Laws.{door_laws, and_sound}
use Rattle.torchvalley.proofs.torchvalley_identification.Goals as goal

pub standard-requires : goal.standard-requires
standard-requires c = search door_laws

pub read-requires : goal.read-requires
read-requires c = search door_laws

pub enum_known-identity : goal.enum_known-identity
enum_known-identity c = search door_laws

pub enum_known-refusal : goal.enum_known-refusal
enum_known-refusal c = search door_laws

pub number-requires : goal.number-requires
number-requires c = search door_laws

pub no_identity-requires : goal.no_identity-requires
no_identity-requires c = search door_laws

pub returns-in-Ok : goal.returns-in-Ok
returns-in-Ok c = let both = and_sound _ _ (search door_laws) in record { value = both.0; sound = both.1 }

pub returns-in-Err : goal.returns-in-Err
returns-in-Err c = let both = and_sound _ _ (search door_laws) in record { value = both.0; sound = both.1 }
