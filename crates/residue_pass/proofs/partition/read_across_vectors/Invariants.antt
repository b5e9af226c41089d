-- `partition::read_across_vectors` meets its contract: the rest of the run is read into the list as it is (proofs/PartitionLaws). Assumes nothing.
use Rattle.residue_pass.proofs.PartitionLaws.{AcrossLeft}
use Rattle.residue_pass.proofs.partition.read_across_vectors.Given as goal

abbrev pub invariant-loop-j : goal.invariant-loop-j
invariant-loop-j l =
    AcrossLeft l.packet l.decoder.codebooks.books.now l.decoder.codebooks.lengths.now l.decoder.codebooks.codewords.now l.decoder.plans.now l.decoder.residue l.decoder.head l.at l.live l.unused l.divisor l.pass l.initial.out l.initial.next l.out l.next l.j
