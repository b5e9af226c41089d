-- `cycle::read_class_words` meets its contract: the rest of the run is read into the list as it is (proofs/CycleLaws). Assumes nothing.
use Rattle.residue_pass.proofs.CycleLaws.{ClassWordsLeft}
use Rattle.residue_pass.proofs.cycle.read_class_words.Given as goal

abbrev pub invariant-loop-i : goal.invariant-loop-i
invariant-loop-i l =
    ClassWordsLeft l.packet l.codebooks.books.now l.codebooks.lengths.now l.codebooks.codewords.now l.book l.live l.initial.out l.initial.next l.out l.next l.i
