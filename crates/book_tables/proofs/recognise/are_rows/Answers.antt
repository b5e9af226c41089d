-- `book_tables::recognise::are_rows` meets its contract. Assumes nothing.
use mathlib.Core.Bool.{not}
use mathlib.Core.Path.{ap}
use Rattle.book_tables.proofs.RecogniseLaws.{progress_start, progress_stop, progress_next, progress_end, entries_fit, values_fit}
use borrow.Author.Rules.{rules}
use Rattle.book_tables.proofs.recognise.are_rows.Goals as goal

pub loop-i-init : goal.loop-i-init
loop-i-init c = search (rules, progress_start)

pub returns-then-not-is_book : goal.returns-then-not-is_book
returns-then-not-is_book c = search (rules, progress_stop)

pub overflow_add-entries : goal.overflow_add-entries
overflow_add-entries c = search (rules, entries_fit)

pub overflow_add-values : goal.overflow_add-values
overflow_add-values c = search (rules, values_fit _ _ _ _ _ _ _ _ c.loop-i.invariant.0 c.is_book.ensures (ap not c.if-not-is_book.false))

pub loop-i-preserved : goal.loop-i-preserved
loop-i-preserved c =
    let v = c.loop-i.invariant in
    let r = c.row_at-row.ensures in
    let b = c.is_book.ensures in
    (v.0, v.1, progress_next _ _ _ _ _ _ v.1 v.0 _ _ _ v.2 (search rules) r b (ap not c.if-not-is_book.false))

pub returns : goal.returns
returns c =
    let v = c.loop-i.invariant in
    progress_end _ _ _ _ _ _ v.1 v.0 _ _ _ v.2 c.loop-i-test.false c.are_clear.ensures
