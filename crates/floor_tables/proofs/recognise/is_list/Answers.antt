-- `floor_tables::recognise::is_list` meets its contract. Assumes nothing.
use mathlib.Core.Bool.{not}
use mathlib.Core.Path.{refl, ap}
use native.Mathlib.Omega.{arith}
use Rattle.floor_tables.proofs.FloorLaws.{list_first, list_second, list_range, list_trailing, list_end}
use Rattle.floor_tables.proofs.recognise.is_list.Goals as goal

pub returns-then-floors-at-ne0 : goal.returns-then-floors-at-ne0
returns-then-floors-at-ne0 c = list_first c.args.floors.now c.args.at (omega arith) c.requires.2 refl refl refl refl c.if-floors-at-ne0.true

pub returns-then-floors-at : goal.returns-then-floors-at
returns-then-floors-at c = list_second c.args.floors.now c.args.at (omega arith) c.requires.2 refl refl refl refl c.if-floors-at-ne0.false refl c.if-floors-at.true

pub returns-then-not-are_below : goal.returns-then-not-are_below
returns-then-not-are_below c =
    list_range c.args.floors.now c.args.at (omega arith) c.requires.2 refl refl refl refl c.if-floors-at-ne0.false refl c.if-floors-at.false c.are_below.ensures
    (ap not c.if-not-are_below.true)

pub returns-then-not-are_below-2 : goal.returns-then-not-are_below-2
returns-then-not-are_below-2 c =
    list_trailing c.args.floors.now c.args.at (omega arith) c.requires.2 refl refl refl refl c.if-floors-at-ne0.false refl c.if-floors-at.false c.are_below.ensures
    (ap not c.if-not-are_below.false) c.are_below-2.ensures (ap not c.if-not-are_below-2.true)

pub returns : goal.returns
returns c =
    list_end c.args.floors.now c.args.at (omega arith) c.requires.2 refl refl refl refl c.if-floors-at-ne0.false refl c.if-floors-at.false c.are_below.ensures
    (ap not c.if-not-are_below.false) c.are_below-2.ensures (ap not c.if-not-are_below-2.false) c.are_distinct.ensures
