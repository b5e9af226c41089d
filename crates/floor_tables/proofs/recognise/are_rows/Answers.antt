-- `floor_tables::recognise::are_rows` meets its contract. Assumes nothing.
use mathlib.Core.Bool.{not}
use mathlib.Core.Path.{ap}
use Prim.Native.Nat.{◌*◌}
use native.Mathlib.Omega.{arith}
use Rattle.reading.proofs.Encodes.{rows_start}
use Rattle.floor.specs.Layout.{floor_row, floor_width}
use Rattle.floor.proofs.Decoded.{floor_long}
use Rattle.floor_tables.proofs.Places.{slice_of, rows_found, rows_refuted, rows_shown}
use borrow.Author.Rules.{rules}
use Rattle.floor_tables.proofs.recognise.are_rows.Goals as goal

pub loop-f-init : goal.loop-f-init
loop-f-init c = (search rules, search rules, search rules, rows_start floor_row _ floor_width floor_long _ _)

pub returns-then-not-is_floor : goal.returns-then-not-is_floor
returns-then-not-is_floor c =
    let start = c.args in
    let here = c.loop-f in
    rows_refuted floor_row _ floor_width floor_long _ _ here.f here.invariant.3 (omega arith) (slice_of start.floors.now (floor_width * here.f) floor_width) c.is_floor.ensures (ap not c.if-not-is_floor.true)

pub loop-f-preserved : goal.loop-f-preserved
loop-f-preserved c =
    let start = c.args in
    let here = c.loop-f in
    let later = rows_shown floor_row _ floor_width floor_long _ _ here.f here.invariant.3 (omega arith) (slice_of start.floors.now (floor_width * here.f) floor_width) c.is_floor.ensures (omega arith) (ap not c.if-not-is_floor.false) in
    (search rules, search rules, search rules, later)

pub returns : goal.returns
returns c =
    let here = c.loop-f in
    rows_found floor_row _ floor_width floor_long _ _ here.f here.invariant.3 (omega arith) (omega arith)
