-- `floor_curve::draw_linked` meets its contract. The loop keeps what is drawn: the curve up to the place at which the left point lies (`DrawnUpToPoint`). Each turn moves
-- right, since the next point lies right of that place. Assumes nothing.
use Prim.Native.Nat.{◌-◌}
use lib.ListN.{length}
use Rattle.floor_curve.proofs.LinkedLaws.{DrawnUpToPoint}
use Rattle.floor_curve.proofs.draw_linked.Given as goal

abbrev pub invariant-loop-at : goal.invariant-loop-at
invariant-loop-at l = DrawnUpToPoint l.x l.y l.flags l.multiplier l.initial.out l.out l.at l.left

abbrev pub decreases-loop-at : goal.decreases-loop-at
decreases-loop-at l = length l.initial.out - l.at
