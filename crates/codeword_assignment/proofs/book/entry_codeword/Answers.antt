-- `codeword_assignment::book::entry_codeword` meets its contract: a length of 0 takes nothing, as the model says. Assumes nothing.
use Rattle.codeword_assignment.proofs.Assigning.{unused_number, unused_blocks, used_number}
use Rattle.codeword_assignment.proofs.book.entry_codeword.Goals as goal

pub returns-then-length-eq0 : goal.returns-then-length-eq0
returns-then-length-eq0 c = (unused_number _ _ c.if-length-eq0.true, unused_blocks _ _ c.if-length-eq0.true)

pub returns : goal.returns
returns c = (used_number _ _ _ c.if-length-eq0.false c.enter.ensures.value, c.enter.ensures.left)
