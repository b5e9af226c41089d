-- `floor_values::values::read_used` meets its contract (proofs/FloorLaws). Assumes nothing.
use Rattle.bits.proofs.Answers.{wrote_back}
use Rattle.floor_values.proofs.FloorLaws.{used_refused, used_read}
use Rattle.floor_values.proofs.values.read_used.Goals as goal

pub read_first_two-requires : goal.read_first_two-requires
read_first_two-requires c = c.requires.valid.carried.multiplier

pub returns-in_err-next : goal.returns-in_err-next
returns-in_err-next c = wrote_back c.from_residual.result _ c.from_residual.ensures.1 (used_refused _ _ _ _ _ _ _ c.read_first_two.ensures c.in_err-next.was _)

pub returns : goal.returns
returns c = used_read _ _ _ _ _ _ _ c.read_first_two.ensures c.in_ok-next.was c.read_partitions.ensures
