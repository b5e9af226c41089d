-- `record_lines::fields::put_field` meets its contract: the text, then the number. Assumes nothing.
use Rattle.record_lines.proofs.Laws.{join}
use Rattle.record_lines.proofs.Numbers.{long_decimal}
use native.Mathlib.Omega.{arith}
use Rattle.record_lines.proofs.fields.put_field.Goals as goal

pub put_decimal-requires : goal.put_decimal-requires
put_decimal-requires c = omega (arith, long_decimal c.args.number)

pub returns : goal.returns
returns c = join c.put_text-at_number.ensures c.put_decimal.ensures
