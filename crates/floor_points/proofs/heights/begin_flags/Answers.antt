-- `floor_points::heights::begin_flags` meets its contract. Two stores after clearing. Assumes nothing.
use Prim.Native.Nat.{ℕ}
use mathlib.Core.List.{List}
use mathlib.Core.Path.{ap}
use lib.ListN.{set}
use Rattle.floor_points.proofs.heights.begin_flags.Goals as goal

pub returns : goal.returns
returns c = ap (λ (l : List ℕ). set (set l 0 1) 1 1) c.clear.ensures
