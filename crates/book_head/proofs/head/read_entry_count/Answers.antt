-- `book_head::head::read_entry_count` meets its contract, by HeadLaws. Assumes nothing.
use Rattle.bits.proofs.Answers.{outcome_back}
use Rattle.book_head.proofs.HeadLaws.{entries_cut, entries_none, entries_many, entries_past, entries_whole}
use Rattle.book_head.proofs.head.read_entry_count.Goals as goal

pub returns-in_err-entries : goal.returns-in_err-entries
returns-in_err-entries c = outcome_back c.from_residual.result _ c.from_residual.ensures.1 (entries_cut _ _ _ _ c.field.ensures c.in_err-entries.was)

pub returns-then-entries-eq0 : goal.returns-then-entries-eq0
returns-then-entries-eq0 c = entries_none _ _ _ _ c.field.ensures c.in_ok-entries.was c.if-entries-eq0.true

pub returns-then-limits-entries : goal.returns-then-limits-entries
returns-then-limits-entries c = entries_many _ _ _ _ c.field.ensures c.in_ok-entries.was c.if-entries-eq0.false c.if-limits-entries.true

pub returns-then-limits-before : goal.returns-then-limits-before
returns-then-limits-before c = entries_past _ _ _ _ c.field.ensures c.in_ok-entries.was c.if-entries-eq0.false c.if-limits-entries.false c.requires c.if-limits-before.true

pub returns : goal.returns
returns c = entries_whole _ _ _ _ c.field.ensures c.in_ok-entries.was c.if-entries-eq0.false c.if-limits-entries.false c.requires c.if-limits-before.false
