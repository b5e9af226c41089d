-- `record_lines::put_line` meets its contract: the number, what the record came to, the newline. Assumes nothing.
use Rattle.record_lines.proofs.Laws.{join, known_most, ends, line_is}
use Rattle.record_lines.proofs.Numbers.{long_decimal}
use Rattle.record_lines.specs.Text.{text, codes_from}
use native.Mathlib.Omega.{arith}
use Rattle.record_lines.proofs.put_line.Goals as goal

pub put_decimal-at_words-requires : goal.put_decimal-at_words-requires
put_decimal-at_words-requires c = omega (arith, long_decimal c.args.number)

pub returns : goal.returns
unfolding text codes_from
returns c =
    let both = ends
    (known_most (join (join c.put_decimal-at_words.ensures c.put_words-at_newline.ensures) c.put_text.ensures)
    (line_is _ _) (omega arith)) in record { out_after = both.0; value = both.1 }
