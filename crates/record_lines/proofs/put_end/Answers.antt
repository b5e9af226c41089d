-- `record_lines::put_end` meets its contract: a field, then the newline. Assumes nothing.
use Rattle.record_lines.proofs.Laws.{join, known_most, ends, end_is}
use Rattle.record_lines.specs.Text.{text, codes_from}
use native.Mathlib.Omega.{arith}
use Rattle.record_lines.proofs.put_end.Goals as goal

pub returns : goal.returns
unfolding text codes_from
returns c =
    let both = ends
    (known_most (join c.put_field-at_end.ensures c.put_text.ensures)
    (end_is _) (omega arith)) in record { out_after = both.0; value = both.1 }
