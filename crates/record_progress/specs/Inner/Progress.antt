-- How far the program has come in the input: what it has still to write, for all that may follow the bytes that were read.
use Rattle.std.specs.Prelude.{ℕ, ◌+◌, cond, List, ◌++◌, ltb, eqb, length, drop}
use Rattle.records.specs.declared.Answer.TheVariants.{TooLong}
use Rattle.record_lines.specs.Lines.{line, torn_line, end_line}
use Rattle.record_step.specs.Step.{Stream}
use Rattle.record_progress.specs.Report.{lines_after}

-- the lines still to write where `skip` bytes of a body that is too long are still to pass: the input ends before them, or the record is whole
unfoldable pub lines_skipping : ℕ → Stream → ℕ → List ℕ → List ℕ
lines_skipping skip x n s =
    cond (ltb (length s) skip) (torn_line (n + 1) ++ end_line n)
    (line (n + 1) TooLong ++ lines_after x (n + 1) (drop skip s))

-- the same with nothing to pass, where skip is 0: a body that is too long has more than 0 bytes
unfoldable pub lines_left : ℕ → Stream → ℕ → List ℕ → List ℕ
lines_left skip x n s = cond (eqb skip 0) (lines_after x n s) (lines_skipping skip x n s)
