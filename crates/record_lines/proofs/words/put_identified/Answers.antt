-- `record_lines::words::put_identified` meets its contract: four fields, two and two. Assumes nothing.
use Rattle.record_lines.proofs.Laws.{join, known_most, identified_words}
use Rattle.record_lines.specs.Text.{text, codes_from}
use native.Mathlib.Omega.{arith}
use Rattle.record_lines.proofs.words.put_identified.Goals as goal

pub returns : goal.returns
unfolding text codes_from
returns c =
    known_most (join c.put_short_fields-at_blocks.ensures c.put_short_fields.ensures)
    (identified_words _) (omega arith)
