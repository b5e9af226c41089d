-- Worked examples of what the tool writes, by computation: 01's own bytes, an input without bytes, and one byte.
use Rattle.std.specs.Prelude.{List, [], ◌∷◌, ◌++◌, ◌≡◌, refl, ℕ, replicate}
use Rattle.reading.specs.Reader.{mapped}
use Rattle.bits.specs.Field.{bit_at, value_at, field}
use Rattle.header.specs.Header.{exactly, common_header, framing}
use Rattle.identification.specs.Identification.{stream, bitrates, block_size, block_sizes, identification}
use Rattle.records.specs.Records.{body_length, kind, body, following, is_torn, is_too_long}
use Rattle.record_lines.specs.Text.{codes_from, text, last_digits_of, decimal}
use Rattle.record_lines.specs.Lines.{words, line, torn_line, end_line}
use Rattle.record_step.specs.Step.{step}
use Rattle.record_progress.specs.Report.{record_step, lines_from, lines_after, report}

-- an identification record of 30 bytes, and an audio record without a body (01, the tool)
abbrev figure : List ℕ
figure =
    0x1E ∷ 0 ∷ 0 ∷ 0 ∷ 1 ∷ 0 ∷ 1 ∷ 0x76 ∷ 0x6F ∷ 0x72 ∷ 0x62 ∷ 0x69 ∷ 0x73 ∷ 0 ∷ 0 ∷ 0 ∷ 0 ∷ 1 ∷ 0x40 ∷ 0x1F ∷ 0 ∷ 0 ∷ []
    ++ replicate 12 0 ++ 0xB8 ∷ 1 ∷ 0 ∷ 0 ∷ 0 ∷ 0 ∷ 3 ∷ 0 ∷ []

pub record ReportExamples : Type 0 where
  pub of_01 : report figure ≡ text "1 identity channels 1 rate 8000 blocks 256 2048\n2 refused 18\nend 2\n"
  pub empty : report [] ≡ text "end 0\n"
  pub torn : report (0x1E ∷ []) ≡ text "1 torn\nend 0\n"

pub report_examples : ReportExamples
unfolding report lines_after lines_from is_torn is_too_long record_step kind body following body_length step line torn_line end_line words text codes_from decimal last_digits_of
    identification common_header exactly stream bitrates block_sizes block_size framing mapped field value_at bit_at
report_examples = record { of_01 = refl; empty = refl; torn = refl }
