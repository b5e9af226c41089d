-- `book_lookup::lookup::read_parameters` meets its contract, by LookupLaws. Assumes nothing.
use Rattle.bits.proofs.Answers.{outcome_back}
use Rattle.book_lookup.proofs.LookupLaws.{minimum_cut, delta_cut, width_cut, sequence_cut, width_fits, parameters_whole}
use Rattle.book_lookup.proofs.lookup.read_parameters.Goals as goal

pub returns-in_err-minimum : goal.returns-in_err-minimum
returns-in_err-minimum c = outcome_back c.from_residual.result _ c.from_residual.ensures.1 (minimum_cut _ _ c.field.ensures c.in_err-minimum.was)

pub returns-in_err-delta : goal.returns-in_err-delta
returns-in_err-delta c =
    let r = c.from_residual-in_err-delta in
    outcome_back r.result _ r.ensures.1 (delta_cut _ _ c.field.ensures c.in_ok-minimum.was c.field-2.ensures c.in_err-delta.was)

pub returns-in_err-bits : goal.returns-in_err-bits
returns-in_err-bits c =
    let r = c.from_residual-in_err-bits in
    outcome_back r.result _ r.ensures.1 (width_cut _ _ c.field.ensures c.in_ok-minimum.was c.field-2.ensures c.in_ok-delta.was c.field-3.ensures c.in_err-bits.was)

pub returns-in_err-sequence : goal.returns-in_err-sequence
returns-in_err-sequence c =
    let r = c.from_residual-in_err-sequence in
    outcome_back r.result _ r.ensures.1
    (sequence_cut _ _ c.field.ensures c.in_ok-minimum.was c.field-2.ensures c.in_ok-delta.was c.field-3.ensures c.in_ok-bits.was c.field-4.ensures c.in_err-sequence.was)

pub overflow_add-result : goal.overflow_add-result
overflow_add-result c = record { fits = width_fits _ _ c.field-3.ensures c.in_ok-bits.was }

pub returns : goal.returns
returns c =
    parameters_whole _ _ c.field.ensures c.in_ok-minimum.was c.field-2.ensures c.in_ok-delta.was c.field-3.ensures c.in_ok-bits.was c.field-4.ensures c.in_ok-sequence.was
