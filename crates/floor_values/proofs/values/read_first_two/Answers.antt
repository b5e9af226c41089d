-- `floor_values::values::read_first_two` meets its contract (proofs/FirstLaws). Assumes nothing.
use native.Mathlib.Omega.{arith}
use borrow.Author.Rules.{rules}
use Rattle.floor_values.proofs.FirstLaws.{multiplier_byte, range_some, width_few, two_read}
use Rattle.floor_values.proofs.values.read_first_two.Goals as goal

pub overflow_cast-multiplier : goal.overflow_cast-multiplier
overflow_cast-multiplier c = search (rules, multiplier_byte c.args.row.floors.now c.args.row.number c.requires c.multiplier.ensures)

pub overflow_sub-range : goal.overflow_sub-range
overflow_sub-range c = omega (arith, range_some c.args.row.floors.now c.args.row.number c.requires c.multiplier.ensures c.range_of-range.ensures.0)

pub read_numbers-requires : goal.read_numbers-requires
read_numbers-requires c = (width_few c.args.row.floors.now c.args.row.number c.requires c.multiplier.ensures c.range_of-range.ensures.0 c.ilog-width.ensures, omega arith, omega arith)

pub returns : goal.returns
returns c = two_read c.args.row.floors.now c.args.row.number c.requires c.multiplier.ensures c.range_of-range.ensures.0 c.ilog-width.ensures _ _ _ c.read_numbers.ensures
