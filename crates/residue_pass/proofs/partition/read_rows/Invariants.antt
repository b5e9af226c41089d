-- `partition::read_rows` meets its contract: the rest of the run is read into the list as it is (proofs/RowsLaws). Assumes nothing.
use Rattle.residue_pass.proofs.RowsLaws.{RowsLeft}
use Rattle.residue_pass.proofs.partition.read_rows.Given as goal

abbrev pub invariant-loop-unused : goal.invariant-loop-unused
invariant-loop-unused l =
    RowsLeft l.packet l.decoder.codebooks.books.now l.decoder.codebooks.lengths.now l.decoder.codebooks.codewords.now l.decoder.plans.now l.decoder.residue l.decoder.head l.at l.live l.decoder.digits l.rows l.pass l.initial.out l.initial.next l.out l.next l.unused l.divisor
