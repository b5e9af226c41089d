-- `floor_curve::lines::line_at` meets its contract. The height lies between those of the ends, which are bytes. Assumes nothing.
use native.Mathlib.Omega.{arith}
use Rattle.floor_curve.proofs.DrawLaws.{line_byte, line_made}
use Rattle.floor_curve.proofs.lines.line_at.Goals as goal

pub overflow_cast-result : goal.overflow_cast-result
overflow_cast-result c = record { fits = line_byte _ _ _ _ _ _ c.line_height.ensures (omega arith) (omega arith) }

pub returns : goal.returns
returns c = line_made _ _ _ _ _ _ c.line_height.ensures
