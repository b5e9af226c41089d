-- `floor_row::counts::value_count` meets its contract. Assumes nothing.
use Prim.Native.Nat.{◌≤◌, ◌*◌}
use mathlib.Core.Path.{◌≡◌}
use Rattle.floor.specs.Inner.Counts.{values_to}
use Rattle.floor_row.proofs.counts.value_count.Given as goal

abbrev pub invariant-loop-i : goal.invariant-loop-i
invariant-loop-i l = (l.partition_count ≤ 31) × (l.sum ≤ 65535 * l.i) × (l.sum ≡ values_to l.classes l.partitions l.i)
