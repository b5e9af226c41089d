-- `floor_partition::partition::read_partition` meets its contract (proofs/PartitionLaws). Assumes nothing.
use Rattle.bits.proofs.Answers.{wrote_back}
use Rattle.floor_partition.proofs.PartitionLaws.{partition_cut, partition_read}
use Rattle.floor_partition.proofs.partition.read_partition.Goals as goal

pub read_class_value-requires : goal.read_class_value-requires
read_class_value-requires c = c.requires.1

pub returns-in_err-class_value : goal.returns-in_err-class_value
returns-in_err-class_value c = wrote_back c.from_residual.result _ c.from_residual.ensures.1 (partition_cut _ _ _ _ _ _ _ c.read_class_value.ensures c.in_err-class_value.was _)

pub read_chosen-requires : goal.read_chosen-requires
read_chosen-requires c = c.requires

pub returns : goal.returns
returns c = partition_read _ _ _ _ _ _ _ c.read_class_value.ensures c.in_ok-class_value.was c.read_chosen.ensures
