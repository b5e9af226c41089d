-- `setup_sections::read_book_section` meets its contract, by SectionLaws. Assumes nothing.
use Rattle.std.proofs.lemmas.Result.{IfOk-from_err}
use Rattle.book.specs.Inner.Answers.{answered}
use Rattle.setup.proofs.ReadIntoLaws.{read_counted_back}
use mathlib.Core.Path.{sym}
use Rattle.setup_sections.proofs.SectionLaws.{books_few, books_fit, books_cut, books_refused, books_read}
use Rattle.setup_sections.proofs.read_book_section.Goals as goal

pub overflow_add-count : goal.overflow_add-count
overflow_add-count c = record { fits = books_fit _ _ c.field.ensures c.in_ok-less_one.was }

pub read_books-requires : goal.read_books-requires
read_books-requires c = (c.requires.buffers, books_few _ _ c.field.ensures c.in_ok-less_one.was)

pub returns-in_err-less_one : goal.returns-in_err-less_one
returns-in_err-less_one c = record {
  read_into = read_counted_back c.from_residual.result _ c.from_residual.ensures.1 (books_cut _ _ _ c.field.ensures c.in_err-less_one.was);
  count_bound = IfOk-from_err _ _ c.from_residual.ensures.0;
}

pub returns-in_err-_totals : goal.returns-in_err-_totals
unfolding answered
returns-in_err-_totals c =
    let r = c.from_residual-in_err-_totals in
    record {
      read_into = read_counted_back r.result _ r.ensures.1 (books_refused _ _ _ c.field.ensures c.in_ok-less_one.was _ _ _ _ (sym c.in_err-_totals.ensures.wrote));
      count_bound = IfOk-from_err _ _ r.ensures.0;
    }

pub returns : goal.returns
unfolding answered
returns c = record {
  read_into = books_read _ _ _ c.field.ensures c.in_ok-less_one.was _ _ _ _ c.requires (sym c.in_ok-_totals.ensures.wrote);
  count_bound = books_few _ _ c.field.ensures c.in_ok-less_one.was;
}
