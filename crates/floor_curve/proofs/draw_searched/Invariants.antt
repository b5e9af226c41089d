-- `floor_curve::draw_searched` meets its contract. The loop keeps what is drawn: the curve up to a place at which a point lies (`DrawnUpTo`). Each turn moves right, since the next point lies right of that place. Assumes nothing.
use Prim.Native.Nat.{◌-◌}
use lib.ListN.{length}
use Rattle.floor_curve.proofs.CurveLaws.{DrawnUpTo}
use Rattle.floor_curve.proofs.draw_searched.Given as goal

abbrev pub invariant-loop-at : goal.invariant-loop-at
invariant-loop-at l = DrawnUpTo l.x l.y l.flags l.multiplier l.initial.out l.out l.at

abbrev pub decreases-loop-at : goal.decreases-loop-at
decreases-loop-at l = length l.initial.out - l.at
