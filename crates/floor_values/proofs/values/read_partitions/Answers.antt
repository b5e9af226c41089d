-- `floor_values::values::read_partitions` meets its contract: what is left to read, written into the list as it is, is the whole (proofs/PartitionLaws). Assumes nothing.
use native.Mathlib.Omega.{arith}
use Rattle.bits.proofs.Answers.{wrote_back}
use Rattle.floor_values.proofs.PartitionLaws.{go_start, count_few, place_low, go_class, go_refused, go_next, go_done}
use borrow.Author.Rules.{rules}
use Rattle.floor_values.proofs.values.read_partitions.Goals as goal

pub loop-i-init : goal.loop-i-init
loop-i-init c = go_start c.requires c.partition_count-count.ensures

pub partition_class-class-requires : goal.partition_class-class-requires
partition_class-class-requires c = search (rules, count_few c.loop-i.invariant)

pub read_partition-requires : goal.read_partition-requires
read_partition-requires c = (place_low c.loop-i.invariant (omega arith), go_class c.loop-i.invariant (omega arith) c.partition_class-class.ensures)

pub returns-in_err-next : goal.returns-in_err-next
returns-in_err-next c =
    wrote_back c.from_residual.result _ c.from_residual.ensures.1
    (go_refused c.loop-i.invariant (omega arith) c.partition_class-class.ensures c.read_partition.ensures c.in_err-next.was _)

pub class_dimensions-requires : goal.class_dimensions-requires
class_dimensions-requires c = (go_class c.loop-i.invariant (omega arith) c.partition_class-class.ensures).class_few

pub overflow_add-at : goal.overflow_add-at
overflow_add-at c = record { fits = omega (arith, place_low c.loop-i.invariant (omega arith), c.class_dimensions.ensures) }

pub loop-i-preserved : goal.loop-i-preserved
loop-i-preserved c =
    go_next c.loop-i.invariant (omega arith) c.partition_class-class.ensures c.read_partition.ensures c.in_ok-next.was (search rules) c.class_dimensions.ensures

pub returns : goal.returns
returns c = go_done c.loop-i.invariant (omega arith)
