-- `codeword_assignment::book::assign_codewords` meets its contract: the verdict is `hand_out`'s, and every refusal clears. Assumes nothing.
use mathlib.Core.Path.{sym, ◌∙◌}
use Rattle.codeword_assignment.proofs.Assigning.{still_cleared, promised_short, promised_accepted, promised_refused}
use Rattle.codeword_assignment.proofs.book.assign_codewords.Goals as goal

pub returns-then-codewords-lengths : goal.returns-then-codewords-lengths
returns-then-codewords-lengths c = let p = promised_short _ _ _ c.clear.ensures c.if-codewords-lengths.true in record { value = p.value; decodable = p.decodable }

pub hand_out-answer-requires : goal.hand_out-answer-requires
hand_out-answer-requires c = (c.if-codewords-lengths.false, still_cleared _ _ c.clear.ensures)

pub returns-then-is_err : goal.returns-then-is_err
returns-then-is_err c =
    let a = c.hand_out-answer in
    let p = promised_refused _ _ _ c.clear.ensures _ c.if-codewords-lengths.false a.ensures.0 _ _ (sym c.is_err.ensures.value ∙ c.if-is_err.true) a.auto.codewords c.clear-then-is_err.ensures in
    record { value = p.value; decodable = p.decodable }

pub returns-else-is_err : goal.returns-else-is_err
returns-else-is_err c =
    let a = c.hand_out-answer in
    let p = promised_accepted _ _ _ c.clear.ensures _ c.if-codewords-lengths.false a.ensures.0 _ a.ensures.1 (sym c.is_err.ensures.value ∙ c.if-is_err.false) in
    record { value = p.value; decodable = p.decodable }
