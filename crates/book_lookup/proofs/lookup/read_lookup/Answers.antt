-- `book_lookup::lookup::read_lookup` meets its contract, by LookupLaws. Assumes nothing.
use Rattle.book.proofs.Answered.{answered_back, answers_bad, answers_ok}
use Rattle.book_lookup.proofs.LookupLaws.{type_past, type_none, type_cut, type_some}
use Rattle.book_lookup.proofs.lookup.read_lookup.Goals as goal

pub returns-in_err-lookup-clause-wrote : goal.returns-in_err-lookup-clause-wrote
returns-in_err-lookup-clause-wrote c = answered_back _ c.from_residual.result _ c.from_residual.ensures.1 (type_cut _ _ _ _ _ _ _ _ c.field.ensures c.in_err-lookup.was)

pub returns-then-lookup-gt2-clause-wrote : goal.returns-then-lookup-gt2-clause-wrote
returns-then-lookup-gt2-clause-wrote c = answers_bad _ _ (type_past _ _ _ _ _ _ _ _ c.field.ensures c.in_ok-lookup.was c.if-lookup-gt2.true)

pub returns-then-lookup-eq0-clause-wrote : goal.returns-then-lookup-eq0-clause-wrote
returns-then-lookup-eq0-clause-wrote c = answers_ok _ _ (type_none _ _ _ _ _ _ _ _ c.field.ensures c.in_ok-lookup.was c.if-lookup-gt2.false c.if-lookup-eq0.true)

pub returns-clause-wrote : goal.returns-clause-wrote
returns-clause-wrote c =
    type_some _ _ _ _ _ _ _ _ c.field.ensures c.in_ok-lookup.was c.if-lookup-gt2.false c.if-lookup-eq0.false c.value_count-multiplicand_count.ensures c.read_values.ensures.wrote
