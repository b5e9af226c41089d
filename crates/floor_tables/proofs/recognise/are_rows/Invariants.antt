-- `floor_tables::recognise::are_rows` meets its contract. Assumes nothing.
use Prim.Native.Nat.{◌≤◌}
use lib.ListN.{length}
use Rattle.reading.proofs.Encodes.{Left}
use Rattle.floor.specs.Layout.{floor_row, floor_width}
use Rattle.floor.specs.Inner.Valid.{ValidFloor}
use Rattle.floor.proofs.Decoded.{floor_long}
use Rattle.floor_tables.proofs.recognise.are_rows.Given as goal

abbrev pub invariant-loop-f : goal.invariant-loop-f
invariant-loop-f l = (l.count ≤ 64) × (l.book_count ≤ 256) × (17728 ≤ length l.floors) × Left floor_row (ValidFloor l.book_count) floor_width floor_long l.count l.floors l.f
