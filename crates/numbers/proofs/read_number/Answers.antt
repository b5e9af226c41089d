-- `numbers::read_number` meets its contract. Assumes nothing.
use Rattle.bits.proofs.Answers.{wrote_back}
use Rattle.numbers.proofs.NumberLaws.{number_laws, number_cut, number_read}
use Rattle.numbers.proofs.read_number.Goals as goal

pub returns-in_err-v : goal.returns-in_err-v
returns-in_err-v c = wrote_back c.from_residual.result _ c.from_residual.ensures.1 (number_cut _ _ _ c.field.ensures _ _ c.in_err-v.was)

pub overflow_cast-v : goal.overflow_cast-v
overflow_cast-v c = search number_laws

pub returns : goal.returns
returns c = number_read _ _ _ c.field.ensures c.in_ok-v.was _ _ _ c.put.ensures
