-- `floor_line::lines::line_height` meets its contract. The offset is at most the rise or fall, so neither the difference nor the sum wraps. Assumes nothing.
use Rattle.floor_line.proofs.LineLaws.{offset_most, fallen, risen}
use native.Mathlib.Omega.{arith}
use Rattle.floor_line.proofs.lines.line_height.Goals as goal

pub overflow_sub-result : goal.overflow_sub-result
overflow_sub-result c = let m = offset_most _ _ _ _ _ c.offset.ensures in omega arith

pub returns-then-h1-h0 : goal.returns-then-h1-h0
returns-then-h1-h0 c = fallen _ _ _ _ _ _ (omega arith) c.offset.ensures

pub overflow_add-result : goal.overflow_add-result
overflow_add-result c = let m = offset_most _ _ _ _ _ c.offset-else-h1-h0.ensures in omega arith

pub returns-else-h1-h0 : goal.returns-else-h1-h0
returns-else-h1-h0 c = risen _ _ _ _ _ _ (omega arith) c.offset-else-h1-h0.ensures
