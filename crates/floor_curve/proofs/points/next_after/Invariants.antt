-- `floor_curve::points::next_after` meets its contract. The loop keeps what the rest of the search gives. Assumes nothing.
use Rattle.std.specs.Prelude.{IfSome, unwrap_or}
use Prim.Native.Nat.{◌-◌, ◌<◌}
use mathlib.Core.Path.{◌≡◌}
use lib.ListN.{length}
use Rattle.floor_line.specs.Search.{searched}
use Rattle.floor_curve.specs.Curve.{takes_right, next_after}
use Rattle.floor_curve.proofs.points.next_after.Given as goal

abbrev pub invariant-loop-j : goal.invariant-loop-j
invariant-loop-j l = IfSome l.best (λ b. b < length l.x) × (searched (takes_right l.x l.flags l.at) (unwrap_or l.best (length l.x)) l.j (length l.x - l.j) ≡ next_after l.x l.flags l.at)
