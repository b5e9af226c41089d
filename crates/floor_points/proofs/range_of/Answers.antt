-- `floor_points::range_of` meets its contract. Each arm is one row of `range_of`. Assumes nothing.
use native.Mathlib.Omega.{arith}
use Rattle.floor_points.proofs.FitLaws.{range_1, range_2, range_3, range_4, range_none}
use Rattle.floor_points.proofs.range_of.Goals as goal

pub returns-in-1 : goal.returns-in-1
returns-in-1 c = (range_1 _ (omega arith), omega arith)

pub returns-in-2 : goal.returns-in-2
returns-in-2 c = (range_2 _ (omega arith), omega arith)

pub returns-in-3 : goal.returns-in-3
returns-in-3 c = (range_3 _ (omega arith), omega arith)

pub returns-in-4 : goal.returns-in-4
returns-in-4 c = (range_4 _ (omega arith), omega arith)

pub returns-in_default : goal.returns-in_default
returns-in_default c = (range_none _ (omega arith) (omega arith) (omega arith) (omega arith), omega arith)
