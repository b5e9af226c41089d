-- `first::first_pass` meets its contract (proofs/FirstLaws). Assumes nothing.
use Rattle.residue_decode.proofs.FirstLaws.{FirstLeft}
use Rattle.residue_decode.proofs.first.first_pass.Given as goal

abbrev pub invariant-loop-left : goal.invariant-loop-left
invariant-loop-left l =
    FirstLeft l.packet l.decoder.codebooks.books.now l.decoder.codebooks.lengths.now l.decoder.codebooks.codewords.now l.decoder.plans.now l.decoder.residue l.decoder.head l.live l.decoder.digits l.decoder.top l.partitions l.initial.out l.initial.next l.out l.next l.left

abbrev pub decreases-loop-left : goal.decreases-loop-left
decreases-loop-left l = l.left
