-- `floor_points::heights::unwrap` meets its contract. Each return is one way out of `unwrapped`, and stays below 131,072. Assumes nothing.
use Rattle.floor_points.proofs.Unwrapping.{unwrap_zero, unwrap_low, unwrap_high, unwrap_near_low, unwrap_near_high}
use native.Mathlib.Omega.{arith}
use Rattle.floor_points.proofs.heights.unwrap.Goals as goal

pub returns-then-v-eq0 : goal.returns-then-v-eq0
returns-then-v-eq0 c = (unwrap_zero _ _ _ (omega arith), omega arith)

pub returns-then-predicted-v : goal.returns-then-predicted-v
returns-then-predicted-v c = (unwrap_low _ _ _ (omega arith) (omega arith) (omega arith), omega arith)

pub returns-then-predicted-range : goal.returns-then-predicted-range
returns-then-predicted-range c = (unwrap_near_low _ _ _ _ (omega arith) (omega arith) (omega arith) c.moved.ensures.0, omega arith)

pub returns-then-range-v : goal.returns-then-range-v
returns-then-range-v c = (unwrap_high _ _ _ (omega arith) (omega arith) (omega arith) (omega arith) (omega arith), omega arith)

pub returns : goal.returns
returns c = (unwrap_near_high _ _ _ _ (omega arith) (omega arith) (omega arith) (omega arith) c.moved-2.ensures.0, omega arith)
