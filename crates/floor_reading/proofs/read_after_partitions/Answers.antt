-- `floor_reading::read_after_partitions` meets its contract. Assumes nothing.
use Rattle.bits.proofs.Answers.{wrote_back}
use Rattle.floor_reading.proofs.RowLaws.{from_laws, from_refused, from_read}
use Rattle.floor_reading.proofs.read_after_partitions.Goals as goal

pub read_classes-requires : goal.read_classes-requires
read_classes-requires c = search from_laws

pub returns-in_err-next : goal.returns-in_err-next
returns-in_err-next c =
    wrote_back c.from_residual.result _ c.from_residual.ensures.1
    (from_refused _ _ _ _ c.requires.2 _ _ c.class_count-class_count.ensures _ _ c.read_classes.ensures c.in_err-next.was _)

pub read_after_classes-requires : goal.read_after_classes-requires
read_after_classes-requires c = search from_laws

pub returns : goal.returns
returns c = from_read _ _ _ _ c.requires.2 _ _ c.class_count-class_count.ensures _ _ c.read_classes.ensures c.in_ok-next.was c.read_after_classes.ensures
