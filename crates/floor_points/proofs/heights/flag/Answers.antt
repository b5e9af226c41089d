-- `floor_points::heights::flag` meets its contract. Each return is one way out of `flagged`. Assumes nothing.
use Rattle.floor_points.proofs.Unwrapping.{flag_unset, flag_set}
use native.Mathlib.Omega.{arith}
use Rattle.floor_points.proofs.heights.flag.Goals as goal

pub returns-then-value-eq0 : goal.returns-then-value-eq0
returns-then-value-eq0 c = flag_unset _ _ _ _ _ (omega arith)

pub returns-else-value-eq0 : goal.returns-else-value-eq0
returns-else-value-eq0 c = flag_set _ _ _ _ _ (omega arith)
