-- `first::first_pass` meets its contract (proofs/FirstLaws). Assumes nothing.
use Rattle.codeword_list.proofs.Laws.{read_back}
use Rattle.residue_decode.proofs.FirstLaws.{asked, chunk_stop, chunk_next}
use Rattle.residue_decode.proofs.first.first_pass.Goals as goal

pub loop-left-init : goal.loop-left-init
loop-left-init c = search asked

pub chunk-some-requires : goal.chunk-some-requires
chunk-some-requires c = search asked

pub class_word-requires : goal.class_word-requires
class_word-requires c = search asked

pub returns-in_err-next : goal.returns-in_err-next
returns-in_err-next c =
    read_back c.from_residual.result _ c.from_residual.ensures.1 (chunk_stop c.loop-left.invariant c.chunk-some.ensures c.class_word.ensures c.in_err-next.was)

pub overflow_sub-left : goal.overflow_sub-left
overflow_sub-left c = search asked

pub loop-left-preserved : goal.loop-left-preserved
loop-left-preserved c = chunk_next c.loop-left.invariant c.chunk-some.ensures c.class_word.ensures c.in_ok-next.was

pub loop-left-smaller : goal.loop-left-smaller
loop-left-smaller c = search asked

pub returns : goal.returns
returns c = search asked
