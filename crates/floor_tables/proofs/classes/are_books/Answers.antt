-- `floor_tables::classes::are_books` meets its contract. Assumes nothing.
use mathlib.Core.Bool.{not}
use mathlib.Core.Path.{ap}
use native.Mathlib.Omega.{arith}
use Rattle.floor_tables.proofs.ClassLaws.{books_unset, books_large, books_end}
use Rattle.floor_tables.proofs.classes.are_books.Goals as goal

pub returns-then-not-are_below : goal.returns-then-not-are_below
returns-then-not-are_below c =
    books_unset _ c.args.floors.now c.args.at _ (omega arith) (omega arith) c.are_below.ensures (ap not c.if-not-are_below.true)

pub returns-then-not-are_below-2 : goal.returns-then-not-are_below-2
returns-then-not-are_below-2 c =
    books_large _ c.args.floors.now c.args.at _ (omega arith) (omega arith) c.are_below.ensures (ap not c.if-not-are_below.false)
    c.are_below-2.ensures (ap not c.if-not-are_below-2.true)

pub returns : goal.returns
returns c =
    books_end _ c.args.floors.now c.args.at _ (omega arith) (omega arith) c.are_below.ensures (ap not c.if-not-are_below.false)
    c.are_below-2.ensures (ap not c.if-not-are_below-2.false) c.are_below-3.ensures
