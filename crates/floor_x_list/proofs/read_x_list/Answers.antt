-- `floor_x_list::read_x_list` meets its contract. Assumes nothing.
use native.Mathlib.Omega.{arith}
use Prim.Native.Nat.{◌+◌}
use lib.ListN.{length-take}
use Rattle.numbers.proofs.Beside.{beside_back}
use Rattle.floor_x_list.proofs.XListLaws.{list_few, list_room, list_equal, list_cut, list_read}
use Rattle.floor_x_list.proofs.read_x_list.Goals as goal

pub returns-in_err-next : goal.returns-in_err-next
returns-in_err-next c =
    beside_back _ c.from_residual.result _ c.from_residual.ensures.1
    (list_cut _ _ _ _ _ _ _ c.requires.1 c.requires.0 _ c.put.ensures c.read_x_values.ensures c.in_err-next.was)

pub overflow_add-value_count : goal.overflow_add-value_count
overflow_add-value_count c = omega (arith, list_few _ _ 0 _ _ _ _ c.requires.1 c.requires.0 _ c.put.ensures c.read_x_values.ensures c.in_ok-next.was)

pub slice_bounds-are_distinct-end : goal.slice_bounds-are_distinct-end
slice_bounds-are_distinct-end c = list_room _ _ 0 _ _ _ _ c.requires.1 c.requires.0 _ c.put.ensures c.read_x_values.ensures c.in_ok-next.was

pub slice_bounds-are_distinct-end-2 : goal.slice_bounds-are_distinct-end-2
slice_bounds-are_distinct-end-2 c =
    let h = list_room _ _ 0 _ _ _ _ c.requires.1 c.requires.0 _ c.put.ensures c.read_x_values.ensures c.in_ok-next.was in
    omega (arith, length-take (2 + c.args.value_count) c.read_x_values.new.list)

pub returns-then-not-are_distinct : goal.returns-then-not-are_distinct
returns-then-not-are_distinct c =
    list_equal _ _ _ _ _ _ _ c.requires.1 c.requires.0 _ c.put.ensures c.read_x_values.ensures c.in_ok-next.was c.are_distinct.ensures c.if-not-are_distinct.true

pub returns : goal.returns
returns c =
    list_read _ _ _ _ _ _ _ c.requires.1 c.requires.0 _ c.put.ensures c.read_x_values.ensures c.in_ok-next.was c.are_distinct.ensures c.if-not-are_distinct.false
