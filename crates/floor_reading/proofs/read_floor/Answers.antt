-- `floor_reading::read_floor` meets its contract. Assumes nothing.
use Rattle.bits.proofs.Answers.{wrote_back}
use Rattle.floor_reading.proofs.RowLaws.{floor_refused, floor_read_lem}
use Rattle.floor_reading.proofs.read_floor.Goals as goal

pub returns-in_err-next : goal.returns-in_err-next
returns-in_err-next c = wrote_back c.from_residual.result _ c.from_residual.ensures.1 (floor_refused _ _ _ _ _ c.read_type.ensures c.in_err-next.was _)

pub returns : goal.returns
returns c = floor_read_lem _ _ _ _ _ c.read_type.ensures c.in_ok-next.was c.read_floor1.ensures
