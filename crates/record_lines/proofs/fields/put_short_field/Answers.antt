-- `record_lines::fields::put_short_field` meets its contract: the text, then the number, which is below 2^32. Assumes nothing.
use Rattle.record_lines.proofs.Laws.{join, known, short_field}
use Rattle.record_lines.proofs.Numbers.{short_decimal}
use mathlib.Core.Path.{refl}
use native.Mathlib.Omega.{arith}
use Rattle.record_lines.proofs.fields.put_short_field.Goals as goal

pub put_decimal-requires : goal.put_decimal-requires
put_decimal-requires c = omega (arith, short_decimal c.args.number (omega (arith, c.ranges.number)))

pub returns : goal.returns
returns c =
    known (join c.put_text-at_number.ensures c.put_decimal.ensures) refl
    (short_field c.args.text.now _ (omega (arith, c.ranges.number)))
