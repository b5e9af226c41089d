-- WHAT THE TOOL WRITES, for a whole input (01, the tool): a line for each record, and a last line that counts the whole ones. Assumes nothing.
use Rattle.std.specs.Prelude.{ℕ, zero, suc, ◌+◌, cond, List, [], ◌∷◌, ◌++◌, length}
use Rattle.records.specs.Records.{kind, body, following, is_torn, is_too_long}
use Rattle.records.specs.declared.Answer.{Answer}
use Rattle.records.specs.declared.Answer.TheVariants.{TooLong}
use Rattle.record_lines.specs.Lines.{line, torn_line, end_line}
use Rattle.record_step.specs.Step.{Stream, no_stream, step}

-- the record at the front: one that is too long is passed over and changes nothing
unfoldable pub record_step : Stream → List ℕ → Stream × Answer
record_step x s = cond (is_too_long s) (x, TooLong) (step x (kind s) (body s))

-- the lines for the rest of an input that has k records at the most, after n whole ones. The input that ends inside a record ends the run
unfoldable pub lines_from : ℕ → Stream → ℕ → List ℕ → List ℕ
lines_from zero x n s = end_line n
lines_from (suc k) x n [] = end_line n
lines_from (suc k) x n (b ∷ l) =
    cond (is_torn (b ∷ l)) (torn_line (n + 1) ++ end_line n)
    (line (n + 1) (record_step x (b ∷ l)).1 ++ lines_from k (record_step x (b ∷ l)).0 (n + 1) (following (b ∷ l)))

-- a record has a byte at the least, so an input has no more records than bytes
unfoldable pub lines_after : Stream → ℕ → List ℕ → List ℕ
lines_after x n s = lines_from (length s) x n s

-- THE OUTPUT
unfoldable pub report : List ℕ → List ℕ
report s = lines_after no_stream 0 s
