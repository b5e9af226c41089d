-- `floor_class::read_master_book` meets its contract. Assumes nothing.
use Rattle.bits.proofs.Answers.{outcome_back}
use Rattle.floor_class.proofs.ClassLaws.{master_none, master_unset, master_cut, master_set}
use Rattle.floor_class.proofs.read_master_book.Goals as goal

pub returns-then-subclasses-eq0 : goal.returns-then-subclasses-eq0
returns-then-subclasses-eq0 c = search master_none

pub returns-in_err-v : goal.returns-in_err-v
returns-in_err-v c = outcome_back c.from_residual.result _ c.from_residual.ensures.1 (search (master_cut, c.in_err-v.was))

pub returns-then-book_count-v : goal.returns-then-book_count-v
returns-then-book_count-v c = search (master_unset, c.in_ok-v.was)

pub returns : goal.returns
returns c = search (master_set, c.in_ok-v.was)
