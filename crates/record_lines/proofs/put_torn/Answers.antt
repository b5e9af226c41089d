-- `record_lines::put_torn` meets its contract: the number, then the text. Assumes nothing.
use Rattle.record_lines.proofs.Laws.{join, known_most, ends, torn_is}
use Rattle.record_lines.proofs.Numbers.{long_decimal}
use Rattle.record_lines.specs.Text.{text, codes_from}
use native.Mathlib.Omega.{arith}
use Rattle.record_lines.proofs.put_torn.Goals as goal

pub put_decimal-at_words-requires : goal.put_decimal-at_words-requires
put_decimal-at_words-requires c = omega (arith, long_decimal c.args.number)

pub returns : goal.returns
unfolding text codes_from
returns c =
    let both = ends
    (known_most (join c.put_decimal-at_words.ensures c.put_text.ensures)
    (torn_is _) (omega arith)) in record { out_after = both.0; value = both.1 }
