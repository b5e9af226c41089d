-- `record_lines::words::put_audio` meets its contract: three fields. Assumes nothing.
use Rattle.record_lines.proofs.Laws.{join, known_most, audio-words}
use Rattle.record_lines.specs.Text.{text, codes_from}
use native.Mathlib.Omega.{arith}
use Rattle.record_lines.proofs.words.put_audio.Goals as goal

pub returns : goal.returns
unfolding text codes_from
returns c =
    known_most
    (join (join c.put_short_field-at_samples.ensures c.put_field-at_codewords.ensures) c.put_field.ensures)
    (audio-words _ _ _) (omega arith)
