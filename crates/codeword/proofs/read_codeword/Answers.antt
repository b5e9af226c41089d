-- `codeword::read_codeword` meets its contract, by Laws. Assumes nothing.
use Rattle.codeword.proofs.Laws.{by_lone, by_matching}
use Rattle.codeword.proofs.read_codeword.Goals as goal

pub returns-then-lone-ne0 : goal.returns-then-lone-ne0
returns-then-lone-ne0 c = let both = by_lone _ _ c.requires _ _ _ c.if-lone-ne0.true c.lone_entry.ensures in record { result_value = both.0; settled = both.1 }

pub returns : goal.returns
returns c = let both = by_matching _ _ c.requires _ _ _ c.if-lone-ne0.false c.match_codeword.ensures in record { result_value = both.0; settled = both.1 }
