-- `floor_row::counts::class_count` meets its contract. Assumes nothing.
use mathlib.Core.Path.{◌≡◌}
use Rattle.floor.specs.Inner.Counts.{classes_to}
use Rattle.floor_row.proofs.counts.class_count.Given as goal

abbrev pub invariant-loop-i : goal.invariant-loop-i
invariant-loop-i l = l.most ≡ classes_to l.partitions l.i
