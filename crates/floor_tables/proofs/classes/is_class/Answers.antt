-- `floor_tables::classes::is_class` meets its contract. Assumes nothing.
use mathlib.Core.Bool.{not}
use mathlib.Core.Path.{refl, ap}
use native.Mathlib.Omega.{arith}
use lib.Pow.{pow_mono}
use Rattle.numbers.proofs.NumberLaws.{one_shifted}
use Rattle.floor_tables.proofs.ClassLaws.{class_low, class_high, class_many, class_master_not, class_end, power_few}
use Rattle.floor_tables.proofs.classes.is_class.Goals as goal

pub returns-then-dimensions-lt1 : goal.returns-then-dimensions-lt1
returns-then-dimensions-lt1 c = search class_low

pub returns-then-dimensions-gt8 : goal.returns-then-dimensions-gt8
returns-then-dimensions-gt8 c = search class_high

pub returns-then-subclasses-gt3 : goal.returns-then-subclasses-gt3
returns-then-subclasses-gt3 c = search class_many

pub is_master-requires : goal.is_master-requires
is_master-requires c = pow_mono {j = 3} (omega arith)

pub returns-then-not-is_master : goal.returns-then-not-is_master
returns-then-not-is_master c =
    class_master_not _ c.args.floors.now c.args.at (omega arith) refl (omega arith) (omega arith) refl (omega arith) refl c.is_master.ensures (ap not c.if-not-is_master.true)

pub are_books-requires : goal.are_books-requires
are_books-requires c = (omega arith, omega arith, power_few (omega arith) (one_shifted 64 _ (omega arith)), omega arith)

pub returns : goal.returns
returns c =
    class_end _ c.args.floors.now c.args.at (omega arith) refl (omega arith) (omega arith) refl (omega arith) refl c.is_master.ensures (ap not c.if-not-is_master.false)
    (one_shifted 64 _ (omega arith)) c.are_books.ensures
