-- `floor_reading::read_floor1` meets its contract. Assumes nothing.
use Rattle.bits.proofs.Answers.{wrote_back}
use Rattle.floor_reading.proofs.RowLaws.{floor1_laws, floor1_cut, floor1_refused, floor1_read}
use Rattle.floor_reading.proofs.read_floor1.Goals as goal

pub returns-in_err-field : goal.returns-in_err-field
returns-in_err-field c = wrote_back c.from_residual.result _ c.from_residual.ensures.1 (floor1_cut _ _ _ _ _ _ c.field.ensures c.in_err-field.was _)

pub read_numbers-requires : goal.read_numbers-requires
read_numbers-requires c = search (floor1_laws, c.in_ok-field.was)

pub returns-in_err-after : goal.returns-in_err-after
returns-in_err-after c =
    wrote_back c.from_residual-in_err-after.result _ c.from_residual-in_err-after.ensures.1
    (floor1_refused _ _ _ _ _ _ c.field.ensures c.in_ok-field.was c.read_numbers.ensures c.in_err-after.was _)

pub read_after_partitions-requires : goal.read_after_partitions-requires
read_after_partitions-requires c = search (floor1_laws, c.in_ok-field.was, c.in_ok-after.was)

pub returns : goal.returns
returns c = floor1_read _ _ _ _ _ _ c.field.ensures c.in_ok-field.was c.read_numbers.ensures c.in_ok-after.was c.read_after_partitions.ensures
