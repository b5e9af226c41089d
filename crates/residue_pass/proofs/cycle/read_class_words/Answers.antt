-- `cycle::read_class_words` meets its contract: the rest of the run is read into the list as it is (proofs/CycleLaws). Assumes nothing.
use Rattle.codeword_list.proofs.Laws.{read_back}
use Rattle.residue_pass.proofs.CycleLaws.{looped, words_stop}
use Rattle.residue_pass.proofs.cycle.read_class_words.Goals as goal

pub loop-i-init : goal.loop-i-init
loop-i-init c = search looped

pub read_word-requires : goal.read_word-requires
read_word-requires c = search looped

pub returns-in_err-next : goal.returns-in_err-next
returns-in_err-next c = read_back c.from_residual.result _ c.from_residual.ensures.1 (words_stop c.loop-i.invariant c.loop-i-test.true c.read_word.ensures c.in_err-next.was)

pub loop-i-preserved : goal.loop-i-preserved
loop-i-preserved c = search looped

pub returns : goal.returns
returns c = search looped
