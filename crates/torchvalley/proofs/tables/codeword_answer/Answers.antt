-- `torchvalley::tables::codeword_answer` meets its contract, by SetupLaws. Assumes nothing.
use Rattle.torchvalley.proofs.SetupLaws.{answer_laws}
use Rattle.torchvalley.proofs.tables.codeword_answer.Goals as goal

pub byte_of-requires : goal.byte_of-requires
byte_of-requires c = search answer_laws

pub returns-in-Err : goal.returns-in-Err
returns-in-Err c = search answer_laws

pub returns-in-Ok : goal.returns-in-Ok
returns-in-Ok c = search answer_laws
