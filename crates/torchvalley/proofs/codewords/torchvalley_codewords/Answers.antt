-- `torchvalley::codewords::torchvalley_codewords` meets its contract, by Laws. Assumes nothing.
use mathlib.Core.Path.{refl}
use Rattle.torchvalley.proofs.Laws.{codewords_answer}
use Rattle.torchvalley.proofs.codewords.torchvalley_codewords.Goals as goal

pub returns-in-Ok : goal.returns-in-Ok
returns-in-Ok c = let both = codewords_answer _ _ _ _ _ c.in-Ok.ensures.value.0 c.in-Ok.ensures.value.1 refl in record { value = both.0; codewords_after = both.1 }

pub returns-in-Err-Overspecified : goal.returns-in-Err-Overspecified
returns-in-Err-Overspecified c = let both = codewords_answer _ _ _ _ _ c.in-Err-Overspecified.ensures.value.0 c.in-Err-Overspecified.ensures.value.1 (rw c.in-Err-Overspecified.field-0-is) in record { value = both.0; codewords_after = both.1 }

pub returns-in-Err-Underspecified : goal.returns-in-Err-Underspecified
returns-in-Err-Underspecified c = let both = codewords_answer _ _ _ _ _ c.in-Err-Underspecified.ensures.value.0 c.in-Err-Underspecified.ensures.value.1 (rw c.in-Err-Underspecified.field-0-is) in record { value = both.0; codewords_after = both.1 }

pub returns-in-Err-TooShort : goal.returns-in-Err-TooShort
returns-in-Err-TooShort c = let both = codewords_answer _ _ _ _ _ c.in-Err-TooShort.ensures.value.0 c.in-Err-TooShort.ensures.value.1 (rw c.in-Err-TooShort.field-0-is) in record { value = both.0; codewords_after = both.1 }
