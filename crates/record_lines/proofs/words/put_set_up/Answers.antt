-- `record_lines::words::put_set_up` meets its contract: two fields. Assumes nothing.
use Rattle.record_lines.proofs.Laws.{known_most, set_up_words}
use Rattle.record_lines.specs.Text.{text, codes_from}
use native.Mathlib.Omega.{arith}
use Rattle.record_lines.proofs.words.put_set_up.Goals as goal

pub returns : goal.returns
unfolding text codes_from
returns c = known_most c.put_short_fields.ensures (set_up_words _ _) (omega arith)
