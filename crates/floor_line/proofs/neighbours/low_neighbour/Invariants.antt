-- `floor_line::neighbours::low_neighbour` meets its contract. The loop keeps what the rest of the search gives; the search then holds the greatest X below. Assumes nothing.
use Rattle.floor_line.specs.Neighbours.{takes_low, low_neighbour}
use Rattle.floor_line.specs.Search.{searched}
use lib.ListN.{get_or}
use Prim.Native.Nat.{◌<◌, ◌-◌}
use mathlib.Core.Path.{◌≡◌}
use Rattle.floor_line.proofs.neighbours.low_neighbour.Given as goal

abbrev pub invariant-loop-j : goal.invariant-loop-j
invariant-loop-j l = (l.best < l.i) × (searched (takes_low l.x (get_or l.x l.i 0)) l.best l.j (l.i - l.j) ≡ low_neighbour l.x l.i)
