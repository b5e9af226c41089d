-- `floor_tables::classes::are_classes` meets its contract. Assumes nothing.
use mathlib.Core.Bool.{not}
use Prim.Native.Nat.{◌+◌, ◌*◌}
use mathlib.Core.Path.{refl, ap}
use native.Mathlib.Omega.{arith}
use Rattle.reading.proofs.Encodes.{rows_start}
use Rattle.floor.specs.Layout.{class_row}
use Rattle.floor.proofs.ClassDecoded.{class_long}
use Rattle.floor_tables.proofs.Places.{slice_long, slice_within, rows_found, rows_refuted, rows_shown}
use borrow.Author.Rules.{rules}
use Rattle.floor_tables.proofs.classes.are_classes.Goals as goal

pub loop-c-init : goal.loop-c-init
loop-c-init c = (search rules, search rules, search rules, search rules, rows_start class_row _ 11 class_long _ _)

pub returns-then-not-is_class : goal.returns-then-not-is_class
returns-then-not-is_class c =
    let start = c.args in
    let here = c.loop-c in
    let row = slice_within start.floors.now start.at (11 * here.c) 11 (start.at + 176) (omega arith) in
    rows_refuted class_row _ 11 class_long _ _ here.c here.invariant.4 (omega arith) row c.is_class.ensures (ap not c.if-not-is_class.true)

pub loop-c-preserved : goal.loop-c-preserved
loop-c-preserved c =
    let start = c.args in
    let here = c.loop-c in
    let long = slice_long start.floors.now start.at 176 (start.at + 176) refl (omega arith) in
    let row = slice_within start.floors.now start.at (11 * here.c) 11 (start.at + 176) (omega arith) in
    let later = rows_shown class_row _ 11 class_long _ _ here.c here.invariant.4 (omega arith) row c.is_class.ensures (omega arith) (ap not c.if-not-is_class.false) in
    (search rules, search rules, search rules, search rules, later)

pub returns : goal.returns
returns c =
    let here = c.loop-c in
    rows_found class_row _ 11 class_long _ _ here.c here.invariant.4 (omega arith) (omega arith)
