-- `book_reading::read::read_body` meets its contract, by BookLaws. Assumes nothing.
use Rattle.book.proofs.Answered.{answered_back}
use Rattle.book_reading.proofs.BookLaws.{body_refused, body_whole, totals_within}
use Rattle.book_reading.proofs.read.read_body.Goals as goal

pub returns-in_err-next-clause-wrote : goal.returns-in_err-next-clause-wrote
returns-in_err-next-clause-wrote c =
    answered_back _ c.from_residual.result _ c.from_residual.ensures.1 (body_refused _ _ _ _ _ _ _ _ _ _ _ _ c.read_entries_at.ensures c.in_err-next.was)

pub returns : goal.returns
returns c =
    let e = c.finish_book.ensures in
    record {
      wrote = body_whole _ _ _ _ _ _ _ _ _ _ _ _ c.read_entries_at.ensures c.in_ok-next.was c.requires.lengths_fit c.lone_mark_at-lone.ensures _ _ _ e.wrote e.entries_value;
      entries_bound = totals_within _ _ _ e.entries_value;
    }
