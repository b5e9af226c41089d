-- `book_reading::read::read_books` meets its contract, by BooksLaws. Assumes nothing.
use native.Mathlib.Omega.{arith}
use Rattle.std.proofs.lemmas.Result.{IfOk-at_ok}
use Rattle.book.proofs.Answered.{answered_bad, answered_ok, answered_back, answers_ok}
use Rattle.book_reading.proofs.BooksLaws.{books_start, books_buffers, books_refused, books_next, books_done}
use Rattle.book_reading.proofs.read.read_books.Goals as goal

pub loop-index-init : goal.loop-index-init
loop-index-init c = (c.requires.0, c.requires.1, books_start _ _ _ _ _ _ _ _)

pub read_book-requires : goal.read_book-requires
read_book-requires c =
    let w = c.loop-index.invariant.2 in
    (books_buffers _ _ _ _ _ _ _ _ w c.loop-index.invariant.0, record { few_books = omega (arith, c.loop-index.invariant.1, c.loop-index-test.true); entries_within = w.entries_within; values_within = w.values_within })

pub returns-in_err-totals-clause-wrote : goal.returns-in_err-totals-clause-wrote
returns-in_err-totals-clause-wrote c =
    answered_back _ c.from_residual.result _ c.from_residual.ensures.1
    (books_refused _ _ _ _ _ _ _ _ c.loop-index.invariant.2 c.loop-index-test.true (answered_bad _ c.read_book.ensures.wrote c.in_err-totals.was))

pub loop-index-preserved : goal.loop-index-preserved
loop-index-preserved c =
    let k = c.read_book.auto in
    let v = c.loop-index.invariant in
    (v.0, v.1, books_next _ _ _ _ _ _ _ _ v.2 c.loop-index-test.true _ (answered_ok _ c.read_book.ensures.wrote c.in_ok-totals.was) (omega arith) (omega arith) (omega arith) (omega arith) (IfOk-at_ok _ c.in_ok-totals.was c.read_book.ensures.entries_le_entries))

pub returns : goal.returns
returns c =
    let w = c.loop-index.invariant.2 in
    record { wrote = answers_ok _ _ (books_done _ _ _ _ _ _ _ _ w c.loop-index-test.false); entries_le_entries = (w.entries_within, w.values_within) }
