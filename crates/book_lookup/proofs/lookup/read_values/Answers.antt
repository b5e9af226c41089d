-- `book_lookup::lookup::read_values` meets its contract, by LookupLaws. Assumes nothing.
use borrow.Author.Rules.{rules}
use Rattle.bits.proofs.Steps.{wrote_bad, wrote_ok}
use Rattle.book.proofs.Answered.{answered_back, answers_bad, answers_ok}
use Rattle.book_lookup.proofs.LookupLaws.{parameters-width, values_past, values_refused, values_whole}
use Rattle.book_lookup.proofs.lookup.read_values.Goals as goal

pub returns-in_err-p-clause-wrote : goal.returns-in_err-p-clause-wrote
returns-in_err-p-clause-wrote c = answered_back _ c.from_residual.result _ c.from_residual.ensures.1 (values_refused _ _ _ _ _ _ _ _ c.read_parameters.ensures c.in_err-p.was)

pub returns-then-most-first-clause-wrote : goal.returns-then-most-first-clause-wrote
returns-then-most-first-clause-wrote c = answers_bad _ _ (values_past _ _ _ _ _ _ _ _ c.read_parameters.ensures c.in_ok-p.was c.if-most-first.true)

pub read_multiplicands-requires : goal.read_multiplicands-requires
read_multiplicands-requires c = parameters-width _ _ c.read_parameters.ensures c.in_ok-p.was

pub returns-in_err-next-clause-wrote : goal.returns-in_err-next-clause-wrote
returns-in_err-next-clause-wrote c =
    let r = c.from_residual-in_err-next in
    answered_back _ r.result _ r.ensures.1
    (wrote_bad (values_whole _ _ _ _ _ _ _ _ c.read_parameters.ensures c.in_ok-p.was (search rules) (search rules) (search rules) (search rules) c.read_multiplicands.ensures (search rules)) c.in_err-next.was)

pub returns-clause-wrote : goal.returns-clause-wrote
returns-clause-wrote c =
    answers_ok _ _
    (wrote_ok (values_whole _ _ _ _ _ _ _ _ c.read_parameters.ensures c.in_ok-p.was (search rules) (search rules) (search rules) (search rules) c.read_multiplicands.ensures (search rules)) c.in_ok-next.was)
