-- `book_lookup::root::lookup1_values` meets its contract, by RootLaws. Assumes nothing.
use Prim.Native.Nat.{◌-◌}
use Rattle.book_lookup.proofs.RootLaws.{Halving}
use Rattle.book_lookup.proofs.root.lookup1_values.Given as goal

abbrev pub invariant-loop-low : goal.invariant-loop-low
invariant-loop-low l = Halving l.entries l.dimensions l.low l.high

abbrev pub decreases-loop-low : goal.decreases-loop-low
decreases-loop-low l = l.high - l.low
