-- `mapping_reading::read_row` meets its contract, by MappingLaws. Assumes nothing.
use Rattle.mapping_reading.proofs.MappingLaws.{row_whole}
use native.Mathlib.Omega.{arith}
use Rattle.mapping_reading.proofs.read_row.Goals as goal

pub returns : goal.returns
returns c = row_whole _ _ _ _ _ _ c.read_parts.ensures c.in_ok-next.was (omega arith) (omega arith) c.counted-row.ensures _ _ c.write.ensures
