-- `book_reading::read::finish_book` meets its contract, by BookLaws. Assumes nothing.
use mathlib.Core.Path.{refl}
use Rattle.std.proofs.lemmas.Result.{IfOk-at_ok}
use Rattle.book.proofs.Answered.{answered_bad, answered_ok, answered_back, answers_ok}
use Rattle.book_reading.proofs.BookLaws.{finish_refused, finish_whole}
use Rattle.book_reading.proofs.read.finish_book.Goals as goal

pub returns-in_err-l-clause-wrote : goal.returns-in_err-l-clause-wrote
returns-in_err-l-clause-wrote c =
    answered_back _ c.from_residual.result _ c.from_residual.ensures.1 (finish_refused _ _ _ _ _ _ _ _ (answered_bad _ c.read_lookup.ensures.wrote c.in_err-l.was))

pub returns : goal.returns
returns c =
    record {
      wrote = answers_ok _ _ (finish_whole _ _ _ _ _ _ _ _ (answered_ok _ c.read_lookup.ensures.wrote c.in_ok-l.was) c.write_row.ensures);
      entries_value = (refl, IfOk-at_ok _ c.in_ok-l.was c.read_lookup.ensures.count_bound);
    }
