-- `floor_curve::points::last_at` meets its contract. The loop keeps what the rest of the search gives. Assumes nothing.
use Prim.Native.Nat.{◌-◌, ◌<◌}
use mathlib.Core.Path.{◌≡◌}
use lib.ListN.{length}
use Rattle.floor_line.specs.Search.{searched}
use Rattle.floor_curve.specs.Curve.{takes_left, last_at}
use Rattle.floor_curve.proofs.points.last_at.Given as goal

abbrev pub invariant-loop-j : goal.invariant-loop-j
invariant-loop-j l = (l.best < length l.x) × (searched (takes_left l.x l.flags l.at) l.best l.j (length l.x - l.j) ≡ last_at l.x l.flags l.at)
