-- `mapping_reading::couplings::read_couplings` meets its contract, by Fillings. Assumes nothing.
use Prim.Native.Nat.{◌+◌, ◌*◌}
use Rattle.mapping_reading.proofs.Fillings.{Filling}
use Rattle.mapping.specs.Reading.{coupling}
use Rattle.mapping.specs.Layout.{coupling_row}
use Rattle.mapping_reading.proofs.couplings.read_couplings.Given as goal

abbrev pub invariant-loop-i : goal.invariant-loop-i
invariant-loop-i l = Filling coupling_row (coupling l.channels) l.packet l.count l.initial.k l.initial.row 4 l.i l.k l.row (4 + 2 * l.i)
