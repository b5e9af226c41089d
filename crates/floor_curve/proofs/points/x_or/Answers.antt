-- `floor_curve::points::x_or` meets its contract. One return for a place in the list, one for a place past it. Assumes nothing.
use Prim.Native.Nat.{◌<◌}
use lib.ListN.{length}
use mathlib.Core.Path.{refl}
use native.Mathlib.Omega.{arith}
use Rattle.floor_curve.proofs.PointLaws.{x_within, x_past}
use Rattle.floor_curve.proofs.points.x_or.Goals as goal

pub bounds-x-j : goal.bounds-x-j
bounds-x-j c = rw c.in-Some.is at c.requires

pub returns-in-Some : goal.returns-in-Some
returns-in-Some c = let h : c.in-Some.j < length c.args.x.now = rw c.in-Some.is at c.requires in rw c.in-Some.is (x_within c.args.x.now _ _ h refl)

pub returns-in-None : goal.returns-in-None
returns-in-None c = rw c.in-None.is (x_past c.args.x.now _ (omega arith))
