-- `floor_curve::points::next_linked` meets its contract. The loop keeps that no flagged point lies between l and the place that it stands at. Assumes nothing.
use Prim.Native.Nat.{◌-◌}
use lib.ListN.{get_or}
use Rattle.floor_curve.proofs.LinkedLaws.{Passed}
use Rattle.floor_curve.proofs.points.next_linked.Given as goal

abbrev pub invariant-loop-p : goal.invariant-loop-p
invariant-loop-p l = Passed l.x l.flags l.l l.p

abbrev pub decreases-loop-p : goal.decreases-loop-p
decreases-loop-p l = get_or l.x 1 0 - get_or l.x l.p 0
