-- `setup_sections::parts::read_book_part` meets its contract, by PartLaws. Assumes nothing.
use Rattle.std.proofs.lemmas.Result.{IfOk-from_err}
use Rattle.setup.proofs.ReadIntoLaws.{read_counted_back}
use Rattle.setup_sections.proofs.PartLaws.{book_part_refused, times_refused, book_part_read}
use Rattle.setup_sections.proofs.parts.read_book_part.Goals as goal

pub returns-in_err-count : goal.returns-in_err-count
returns-in_err-count c = record {
  read_into = read_counted_back c.from_residual.result _ c.from_residual.ensures.1 (book_part_refused _ _ _ c.in_err-count.ensures.read_into);
  count_bound = IfOk-from_err _ _ c.from_residual.ensures.0;
}

pub returns-in_err-next : goal.returns-in_err-next
returns-in_err-next c =
    let r = c.from_residual-in_err-next in
    record {
      read_into = read_counted_back r.result _ r.ensures.1 (times_refused _ _ _ c.in_ok-count.ensures.read_into c.in_err-next.ensures);
      count_bound = IfOk-from_err _ _ r.ensures.0;
    }

pub returns : goal.returns
returns c = record { read_into = book_part_read _ _ _ c.in_ok-count.ensures.read_into c.in_ok-next.ensures; count_bound = c.in_ok-count.ensures.count_bound }
