-- `codeword_assignment::book::are_codewords` meets its contract: as `hand_out`, with the words compared. Assumes nothing.
use Rattle.codeword_assignment.proofs.Comparing.{Comparing}
use Rattle.codeword_assignment.proofs.book.are_codewords.Given as goal

abbrev pub invariant-loop-entry : goal.invariant-loop-entry
invariant-loop-entry l = Comparing l.lengths l.codewords l.blocks l.entry
