-- `book_head::head::read_head` meets its contract, by HeadLaws. Assumes nothing.
use Rattle.bits.proofs.Answers.{outcome_back}
use Rattle.book_head.proofs.HeadLaws.{pattern_cut, pattern_wrong, dimensions_cut, dimensions_none, count_refused, head_whole}
use Rattle.book_head.proofs.head.read_head.Goals as goal

pub returns-in_err-pattern : goal.returns-in_err-pattern
returns-in_err-pattern c = outcome_back c.from_residual.result _ c.from_residual.ensures.1 (pattern_cut _ _ _ _ c.field.ensures c.in_err-pattern.was)

pub returns-then-pattern-ne5653314 : goal.returns-then-pattern-ne5653314
returns-then-pattern-ne5653314 c = pattern_wrong _ _ _ _ c.field.ensures c.in_ok-pattern.was c.if-pattern-ne5653314.true

pub returns-in_err-dimensions : goal.returns-in_err-dimensions
returns-in_err-dimensions c =
    let r = c.from_residual-in_err-dimensions in
    outcome_back r.result _ r.ensures.1 (dimensions_cut _ _ _ _ c.field.ensures c.in_ok-pattern.was c.if-pattern-ne5653314.false c.field-2.ensures c.in_err-dimensions.was)

pub returns-then-dimensions-eq0 : goal.returns-then-dimensions-eq0
returns-then-dimensions-eq0 c =
    dimensions_none _ _ _ _ c.field.ensures c.in_ok-pattern.was c.if-pattern-ne5653314.false c.field-2.ensures c.in_ok-dimensions.was c.if-dimensions-eq0.true

pub returns-in_err-entries : goal.returns-in_err-entries
returns-in_err-entries c =
    let r = c.from_residual-in_err-entries in
    outcome_back r.result _ r.ensures.1
    (count_refused _ _ _ _ c.field.ensures c.in_ok-pattern.was c.if-pattern-ne5653314.false c.field-2.ensures c.in_ok-dimensions.was c.if-dimensions-eq0.false c.read_entry_count.ensures c.in_err-entries.was)

pub returns : goal.returns
returns c =
    head_whole _ _ _ _ c.field.ensures c.in_ok-pattern.was c.if-pattern-ne5653314.false c.field-2.ensures c.in_ok-dimensions.was c.if-dimensions-eq0.false c.read_entry_count.ensures c.in_ok-entries.was
