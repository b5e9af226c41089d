-- `floor_x_list::read_x_values` meets its contract. Assumes nothing.
use Rattle.bits.proofs.Answers.{wrote_back}
use Rattle.floor_x_list.proofs.XListLaws.{x_few, x_cut, x_many}
use Rattle.floor_x_list.proofs.read_x_values.Goals as goal

pub returns-then-value_count-le63 : goal.returns-then-value_count-le63
returns-then-value_count-le63 c = search x_few

pub returns-in_err-read_numbers : goal.returns-in_err-read_numbers
returns-in_err-read_numbers c =
    wrote_back c.from_residual.result _ c.from_residual.ensures.1 (x_cut _ _ _ _ _ _ c.if-value_count-le63.false c.read_numbers-2.ensures c.in_err-read_numbers.was _)

pub returns : goal.returns
returns c = x_many _ _ _ _ _ _ c.if-value_count-le63.false c.read_numbers-2.ensures c.in_ok-read_numbers.was _
