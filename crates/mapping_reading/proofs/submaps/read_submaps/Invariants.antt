-- `mapping_reading::submaps::read_submaps` meets its contract, by Fillings. Assumes nothing.
use Prim.Native.Nat.{◌+◌, ◌*◌}
use Rattle.mapping_reading.proofs.Fillings.{Filling}
use Rattle.mapping.specs.Reading.{submap}
use Rattle.mapping.specs.Layout.{submap_row}
use Rattle.mapping_reading.proofs.submaps.read_submaps.Given as goal

abbrev pub invariant-loop-i : goal.invariant-loop-i
invariant-loop-i l = Filling submap_row (submap l.known) l.packet l.count l.initial.k l.initial.row 772 l.i l.k l.row (772 + 2 * l.i)
