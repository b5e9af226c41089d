-- `partition::read_across_vectors` meets its contract: the rest of the run is read into the list as it is (proofs/PartitionLaws). Assumes nothing.
use Rattle.codeword_list.proofs.Laws.{read_back}
use Rattle.residue_pass.proofs.PartitionLaws.{asked, across_stop, across_next, across_word}
use Rattle.residue_pass.proofs.partition.read_across_vectors.Goals as goal

pub loop-j-init : goal.loop-j-init
loop-j-init c = search asked

pub bounds-out-at : goal.bounds-out-at
bounds-out-at c = across_word c.loop-j.invariant c.loop-j-test.true

pub nonzero_div-class-in-loop-j : goal.nonzero_div-class-in-loop-j
nonzero_div-class-in-loop-j c = search asked

pub read_partition-requires : goal.read_partition-requires
read_partition-requires c = search asked

pub returns-in_err-next : goal.returns-in_err-next
returns-in_err-next c = read_back c.from_residual.result _ c.from_residual.ensures.1 (across_stop c.loop-j.invariant c.loop-j-test.true c.read_partition.ensures c.in_err-next.was)

pub loop-j-preserved : goal.loop-j-preserved
loop-j-preserved c = across_next c.loop-j.invariant c.loop-j-test.true c.read_partition.ensures c.in_ok-next.was

pub returns : goal.returns
returns c = search asked
