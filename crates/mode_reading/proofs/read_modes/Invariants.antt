-- `mode_reading::read_modes` meets its contract, by ReadLaws. Assumes nothing.
use mathlib.Core.Path.{◌≡◌}
use lib.ListN.{length}
use Rattle.reading.specs.Reader.{many, into}
use Rattle.reading.specs.Inner.Table.{table, put_row}
use Rattle.bits.specs.Inner.Cursors.{position}
use Rattle.mode.specs.Reading.{mode}
use Rattle.mode.specs.Layout.{mode_row}
use Prim.Native.Nat.{◌≤◌}
use Rattle.mode_reading.proofs.ReadLaws.{Reading}
use Rattle.mode_reading.proofs.read_modes.Given as goal

abbrev pub invariant-loop-i : goal.invariant-loop-i
invariant-loop-i l = (l.count ≤ 64) × (length l.modes ≡ length l.initial.modes) × Reading l.mapping_count l.packet l.count (into (put_row mode_row) (many (mode l.mapping_count) l.count l.packet (position l.initial.k)) (table l.initial.modes 0)) l.i l.k l.modes
