-- `floor_x_list::read_ends` meets its contract. Assumes nothing.
use native.Mathlib.Omega.{arith}
use Rattle.bits.proofs.Answers.{value_below}
use Rattle.numbers.proofs.Beside.{beside_back}
use Rattle.floor_x_list.proofs.XListLaws.{ends_cut₁, ends_cut₂, rangebits_most, ends_read_lem}
use Rattle.floor_x_list.proofs.read_ends.Goals as goal

pub returns-in_err-multiplier : goal.returns-in_err-multiplier
returns-in_err-multiplier c = beside_back _ c.from_residual.result _ c.from_residual.ensures.1 (ends_cut₁ _ _ _ _ c.field.ensures c.in_err-multiplier.was)

pub returns-in_err-rangebits : goal.returns-in_err-rangebits
returns-in_err-rangebits c =
    beside_back _ c.from_residual-in_err-rangebits.result _ c.from_residual-in_err-rangebits.ensures.1
    (ends_cut₂ _ _ _ _ c.field.ensures c.in_ok-multiplier.was c.field-2.ensures c.in_err-rangebits.was)

pub overflow_add-multiplier : goal.overflow_add-multiplier
overflow_add-multiplier c = omega (arith, value_below 2 _ _ c.field.ensures c.in_ok-multiplier.was)

pub read_x_list-requires : goal.read_x_list-requires
read_x_list-requires c = (rangebits_most c.args.place c.args.value_count _ _ c.field.ensures c.in_ok-multiplier.was c.field-2.ensures c.in_ok-rangebits.was, c.requires)

pub returns : goal.returns
returns c = ends_read_lem _ _ _ _ c.field.ensures c.in_ok-multiplier.was c.field-2.ensures c.in_ok-rangebits.was c.read_x_list.ensures
