-- `mapping_reading::submaps::read_channels` meets its contract, by Fillings. Assumes nothing.
use Prim.Native.Nat.{◌+◌}
use Rattle.mapping_reading.proofs.Fillings.{Filling}
use Rattle.mapping.specs.Reading.{multiplex}
use Rattle.mapping.specs.Layout.{multiplex_row}
use Rattle.mapping_reading.proofs.submaps.read_channels.Given as goal

abbrev pub invariant-loop-i : goal.invariant-loop-i
invariant-loop-i l = Filling multiplex_row (multiplex l.submaps) l.packet l.channels l.initial.k l.initial.row 516 l.i l.k l.row (516 + l.i)
