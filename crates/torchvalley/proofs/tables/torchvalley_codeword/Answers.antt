-- `torchvalley::tables::torchvalley_codeword` meets its contract, by SetupLaws. Assumes nothing.
use Rattle.torchvalley.proofs.SetupLaws.{small, call_addressable, codeword_standard}
use Rattle.torchvalley.proofs.tables.torchvalley_codeword.Goals as goal

pub read_codeword-read-requires : goal.read_codeword-read-requires
read_codeword-read-requires c = small c.standard.ensures

pub codeword_answer-requires : goal.codeword_answer-requires
codeword_answer-requires c = call_addressable _ _ _ _ _ _ (c.read_codeword-read.ensures.result_value, c.read_codeword-read.ensures.demand3) c.well_formed.1.1.1.0.0

pub returns : goal.returns
returns c = let both = codeword_standard c.standard.ensures _ _ _ _ _ _ (c.read_codeword-read.ensures.result_value, c.read_codeword-read.ensures.demand3) c.codeword_answer.ensures in record { value = both.0; demand3 = both.1 }
