-- `book_reading::read::read_book` meets its contract, by BookLaws. Assumes nothing.
use native.Mathlib.Omega.{arith}
use Rattle.book.proofs.Answered.{answered_back}
use Rattle.book_head.proofs.HeadLaws.{head_known}
use Rattle.book_reading.proofs.BookLaws.{book_refused, book_whole, totals_below}
use Rattle.book_reading.proofs.read.read_book.Goals as goal

pub read_body-requires : goal.read_body-requires
read_body-requires c =
    let k = head_known _ _ _ _ c.read_head.ensures c.in_ok-head.was in
    let a = c.requires in
    record { few_books = a.1.few_books; lengths_fit = omega arith; codewords_fit = omega arith; few_entries = omega arith; values_within = a.1.values_within; values_fit = a.0.multiplicands_long; few_values = a.0.few_values }

pub returns-in_err-head-clause-wrote : goal.returns-in_err-head-clause-wrote
returns-in_err-head-clause-wrote c = answered_back _ c.from_residual.result _ c.from_residual.ensures.1 (book_refused _ _ _ _ _ _ c.read_head.ensures c.in_err-head.was)

pub returns : goal.returns
returns c =
    let h = c.read_head.ensures in
    let g = c.in_ok-head.was in
    let k = head_known _ _ _ _ h g in
    record {
      wrote = book_whole _ _ _ _ _ _ h g c.read_body.ensures.wrote;
      entries_le_entries = totals_below _ _ _ _ (omega arith) c.read_body.ensures.entries_bound;
    }
