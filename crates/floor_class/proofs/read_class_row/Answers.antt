-- `floor_class::read_class_row` meets its contract. Assumes nothing.
use native.Mathlib.Omega.{arith}
use Rattle.bits.proofs.Answers.{wrote_back}
use Rattle.numbers.proofs.NumberLaws.{one_shifted}
use Rattle.floor_class.proofs.ClassLaws.{subclasses_few, row_refused, row_read}
use Rattle.floor_class.proofs.read_class_row.Goals as goal

pub read_subclass_books-requires : goal.read_subclass_books-requires
read_subclass_books-requires c = subclasses_few _ (one_shifted 64 c.args.subclasses (omega arith)) (omega arith)

pub returns-in_err-next : goal.returns-in_err-next
returns-in_err-next c =
    wrote_back c.from_residual.result _ c.from_residual.ensures.1
    (row_refused _ _ _ _ _ _ _ _ (one_shifted 64 c.args.subclasses (omega arith)) c.read_subclass_books.ensures c.in_err-next.was _)

pub returns : goal.returns
returns c = row_read _ _ _ _ _ _ _ _ (one_shifted 64 c.args.subclasses (omega arith)) c.read_subclass_books.ensures c.in_ok-next.was _ c.write_pair.ensures
