-- `floor_line::neighbours::high_neighbour` meets its contract. The loop keeps what the rest of the search gives; the search then holds the least X above. Assumes nothing.
use Rattle.floor_line.specs.Neighbours.{takes_high, high_neighbour}
use Rattle.floor_line.specs.Search.{searched}
use lib.ListN.{get_or}
use Prim.Native.Nat.{◌<◌, ◌-◌}
use mathlib.Core.Path.{◌≡◌}
use Rattle.floor_line.proofs.neighbours.high_neighbour.Given as goal

abbrev pub invariant-loop-k : goal.invariant-loop-k
invariant-loop-k l = (l.best < l.i) × (searched (takes_high l.x (get_or l.x l.i 0)) l.best l.k (l.i - l.k) ≡ high_neighbour l.x l.i)
