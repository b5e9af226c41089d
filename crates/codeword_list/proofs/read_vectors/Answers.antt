-- `read_vectors` meets its contract: the rest of the run is read into the list as it is (proofs/Words). Assumes nothing.
use Rattle.codeword_list.proofs.Words.{looped}
use Rattle.codeword_list.proofs.read_vectors.Goals as goal

pub loop-left-init : goal.loop-left-init
loop-left-init c = search looped

pub read_codeword-requires : goal.read_codeword-requires
read_codeword-requires c = search looped

pub returns-in_default : goal.returns-in_default
returns-in_default c = search looped

pub overflow_add-needed : goal.overflow_add-needed
overflow_add-needed c = search looped

pub returns-then-out-needed : goal.returns-then-out-needed
returns-then-out-needed c = search looped

pub list_number-requires : goal.list_number-requires
list_number-requires c = search looped

pub loop-left-preserved : goal.loop-left-preserved
loop-left-preserved c = search looped

pub returns : goal.returns
returns c = search looped
