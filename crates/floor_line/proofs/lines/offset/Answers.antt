-- `floor_line::lines::offset` meets its contract. The product of two 32-bit numbers fits 64 bits, and a part of a number fits where the number does; each return is one law of the offset. Assumes nothing.
use Rattle.reading.proofs.Basics.{product_fits}
use Rattle.floor_line.proofs.LineLaws.{offset_none, offset_left, offset_whole, offset_part, small_part}
use native.Mathlib.Omega.{arith}
use Rattle.floor_line.proofs.lines.offset.Goals.{then-x1-x0-via-then-x1-x0, then-x1-x0-via-else-x1-x0+then-x-x0}
use Rattle.floor_line.proofs.lines.offset.Goals as goal

pub returns-then-x1-x0 : goal.returns-then-x1-x0
returns-then-x1-x0 c =
    elim c.then-x1-x0.branch [
      | then-x1-x0-via-then-x1-x0 w ↦ offset_none _ _ _ _ (omega arith)
      | then-x1-x0-via-else-x1-x0+then-x-x0 w ↦ offset_left _ _ _ _ (omega arith)
    ]

pub returns-then-x1-x : goal.returns-then-x1-x
returns-then-x1-x c = offset_whole _ _ _ _ (omega arith) (omega arith)

pub overflow_mul-result : goal.overflow_mul-result
overflow_mul-result c = record { fits = product_fits _ _ (omega arith) (omega arith) }

pub overflow_cast-result-4 : goal.overflow_cast-result-4
overflow_cast-result-4 c = record { fits = small_part _ _ _ (omega arith) (omega arith) }

pub returns : goal.returns
returns c = offset_part _ _ _ _ (omega arith)
