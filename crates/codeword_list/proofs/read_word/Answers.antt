-- `read_word` meets its contract: what book_codeword answers of one codeword, put into the list (proofs/Words). Assumes nothing.
use Rattle.codeword_list.proofs.Words.{asked}
use Rattle.codeword_list.proofs.read_word.Goals as goal

pub overflow_add-needed : goal.overflow_add-needed
overflow_add-needed c = search asked

pub returns-then-out-needed : goal.returns-then-out-needed
returns-then-out-needed c = search asked

pub list_number-requires : goal.list_number-requires
list_number-requires c = search asked

pub returns-in_default : goal.returns-in_default
returns-in_default c = search asked

pub returns : goal.returns
returns c = search asked
