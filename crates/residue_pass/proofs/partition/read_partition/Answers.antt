-- `partition::read_partition` meets its contract: the plan's place is the residue's, and its book lies in the tables (proofs/PartitionLaws). Assumes nothing.
use Rattle.residue_pass.proofs.PartitionLaws.{asked}
use Rattle.residue_pass.proofs.partition.read_partition.Goals as goal

pub returns-then-place-eq0 : goal.returns-then-place-eq0
returns-then-place-eq0 c = search asked

pub overflow_sub-book : goal.overflow_sub-book
overflow_sub-book c = search asked

pub read_run-requires : goal.read_run-requires
read_run-requires c = search asked

pub returns : goal.returns
returns c = search asked
