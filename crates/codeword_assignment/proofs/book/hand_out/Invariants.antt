-- `codeword_assignment::book::hand_out` meets its contract: the entries passed have the ledger's codewords and none of them is refused. Assumes nothing.
use Rattle.codeword_assignment.proofs.Assigning.{Handing}
use Rattle.codeword_assignment.proofs.book.hand_out.Given as goal

abbrev pub invariant-loop-entry : goal.invariant-loop-entry
invariant-loop-entry l = Handing l.lengths l.initial.codewords l.codewords l.blocks l.entry
