-- `floor_class::read_class` meets its contract. Assumes nothing.
use native.Mathlib.Omega.{arith}
use Rattle.bits.proofs.Answers.{value_below, wrote_back}
use Rattle.floor_class.proofs.ClassLaws.{class_laws, class_cut₁, class_cut₂, class_cut₃, class_read}
use Rattle.floor_class.proofs.read_class.Goals as goal

pub returns-in_err-dimensions : goal.returns-in_err-dimensions
returns-in_err-dimensions c = wrote_back c.from_residual.result _ c.from_residual.ensures.1 (class_cut₁ _ _ _ _ _ c.field.ensures c.in_err-dimensions.was _)

pub returns-in_err-subclasses : goal.returns-in_err-subclasses
returns-in_err-subclasses c =
    wrote_back c.from_residual-in_err-subclasses.result _ c.from_residual-in_err-subclasses.ensures.1
    (class_cut₂ _ _ _ _ _ c.field.ensures c.in_ok-dimensions.was c.field-2.ensures c.in_err-subclasses.was _)

pub returns-in_err-master : goal.returns-in_err-master
returns-in_err-master c =
    wrote_back c.from_residual-in_err-master.result _ c.from_residual-in_err-master.ensures.1
    (class_cut₃ _ _ _ _ _ c.field.ensures c.in_ok-dimensions.was c.field-2.ensures c.in_ok-subclasses.was c.read_master_book.ensures c.in_err-master.was _)

pub overflow_add-dimensions : goal.overflow_add-dimensions
overflow_add-dimensions c = omega (arith, value_below 3 _ _ c.field.ensures c.in_ok-dimensions.was)

pub read_class_row-requires : goal.read_class_row-requires
read_class_row-requires c = search (class_laws, c.in_ok-dimensions.was, c.in_ok-subclasses.was, c.in_ok-master.was)

pub returns : goal.returns
returns c = class_read _ _ _ _ _ c.field.ensures c.in_ok-dimensions.was c.field-2.ensures c.in_ok-subclasses.was c.read_master_book.ensures c.in_ok-master.was c.read_class_row.ensures
