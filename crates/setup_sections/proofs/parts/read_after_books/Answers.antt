-- `setup_sections::parts::read_after_books` meets its contract, by PartLaws. Assumes nothing.
use Rattle.setup.proofs.ReadIntoLaws.{read_counted_back}
use Rattle.setup_sections.proofs.PartLaws.{first_part_refused, second_part_refused, after_read}
use Rattle.setup_sections.proofs.parts.read_after_books.Goals as goal

pub returns-in_err-first : goal.returns-in_err-first
returns-in_err-first c = read_counted_back c.from_residual.result _ c.from_residual.ensures.1 (first_part_refused _ _ _ _ c.in_err-first.ensures)

pub returns-in_err-second : goal.returns-in_err-second
returns-in_err-second c =
    let r = c.from_residual-in_err-second in
    read_counted_back r.result _ r.ensures.1 (second_part_refused _ _ _ _ c.in_ok-first.ensures c.in_err-second.ensures)

pub returns : goal.returns
returns c = after_read _ _ _ _ c.in_ok-first.ensures c.in_ok-second.ensures
