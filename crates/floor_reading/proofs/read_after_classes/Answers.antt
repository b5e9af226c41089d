-- `floor_reading::read_after_classes` meets its contract. Assumes nothing.
use mathlib.Core.List.{[]}
use native.Mathlib.Omega.{arith}
use Rattle.bits.proofs.Answers.{wrote_back}
use Rattle.floor_reading.proofs.RowLaws.{after_laws, after_few, after_refused, after_written}
use Rattle.floor_reading.proofs.read_after_classes.Goals as goal

pub returns-in_err-ends : goal.returns-in_err-ends
returns-in_err-ends c =
    wrote_back c.from_residual.result _ c.from_residual.ensures.1
    (after_refused _ c.args.partition_count _ _ _ _ _ _ _ c.value_count-values.ensures _ c.read_ends.ensures c.in_err-ends.was _)

pub overflow_cast-head-3 : goal.overflow_cast-head-3
overflow_cast-head-3 c = search (after_laws, c.in_ok-ends.was)

pub overflow_cast-head-4 : goal.overflow_cast-head-4
overflow_cast-head-4 c = search (after_laws, c.in_ok-ends.was)

pub overflow_add-head : goal.overflow_add-head
overflow_add-head c = omega (arith, after_few _ c.args.partition_count 0 _ _ _ _ [] 0 c.value_count-values.ensures _ c.read_ends.ensures c.in_ok-ends.was)

pub overflow_cast-head-5 : goal.overflow_cast-head-5
overflow_cast-head-5 c = search (after_laws, c.in_ok-ends.was)

pub returns : goal.returns
returns c =
    after_written _ c.args.partition_count _ _ _ _ _ _ _ c.value_count-values.ensures _ c.read_ends.ensures c.in_ok-ends.was (omega arith) (omega arith) _ c.write_row.ensures
