-- `mapping_reading::read_mappings` meets its contract, one turn after another. Assumes nothing.
use Prim.Native.Nat.{◌*◌}
use Rattle.reading.specs.Reader.{many, into}
use Rattle.reading.specs.Inner.Table.{table, put_row}
use Rattle.bits.specs.Inner.Cursors.{position}
use Rattle.mapping.specs.Reading.{mapping}
use Rattle.mapping.specs.Layout.{mapping_row, mapping_width}
use Rattle.bits.proofs.Steps.{Rest}
use Rattle.mapping_reading.proofs.read_mappings.Given as goal

abbrev pub invariant-loop-i : goal.invariant-loop-i
invariant-loop-i l =
    Rest (put_row mapping_row) (mapping l.known) l.packet l.count (into (put_row mapping_row) (many (mapping l.known) l.count l.packet (position l.initial.k)) (table l.initial.mappings 0)) l.i l.k (table l.mappings (mapping_width * l.i))
