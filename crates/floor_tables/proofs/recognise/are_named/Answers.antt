-- `floor_tables::recognise::are_named` meets its contract. Assumes nothing.
use mathlib.Core.Bool.{not}
use mathlib.Core.Path.{refl, ap}
use native.Mathlib.Omega.{arith}
use Rattle.floor_tables.proofs.FloorLaws.{named_many, named_other, named_not, named_end}
use Rattle.floor_tables.proofs.recognise.are_named.Goals as goal

pub returns-then-count-gt16 : goal.returns-then-count-gt16
returns-then-count-gt16 c = search named_many

pub returns-then-count-class_count : goal.returns-then-count-class_count
returns-then-count-class_count c = named_other _ c.args.floors.now c.args.at (omega arith) refl refl c.class_count.ensures c.if-count-class_count.true

pub returns-then-not-are_classes : goal.returns-then-not-are_classes
returns-then-not-are_classes c =
    named_not _ c.args.floors.now c.args.at (omega arith) refl refl c.class_count.ensures c.if-count-class_count.false c.are_classes.ensures (ap not c.if-not-are_classes.true)

pub returns : goal.returns
returns c =
    named_end _ c.args.floors.now c.args.at (omega arith) refl refl c.class_count.ensures c.if-count-class_count.false c.are_classes.ensures (ap not c.if-not-are_classes.false) c.are_below.ensures
