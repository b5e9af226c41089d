-- `floor_points::heights::moved` meets its contract. Each return is one way out of `moved_height`. Assumes nothing.
use Rattle.floor_points.proofs.Unwrapping.{moved_down, moved_up}
use native.Mathlib.Omega.{arith}
use Rattle.floor_points.proofs.heights.moved.Goals as goal

pub returns-then-value-eq1 : goal.returns-then-value-eq1
returns-then-value-eq1 c = (moved_down _ _ (omega arith), omega arith)

pub returns-else-value-eq1 : goal.returns-else-value-eq1
returns-else-value-eq1 c = (moved_up _ _ (omega arith), omega arith)
