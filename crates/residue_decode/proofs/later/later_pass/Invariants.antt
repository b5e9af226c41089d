-- `later::later_pass` meets its contract (proofs/LaterLaws). Assumes nothing.
use Rattle.residue_decode.proofs.LaterLaws.{LaterLeft}
use Rattle.residue_decode.proofs.later.later_pass.Given as goal

abbrev pub invariant-loop-left : goal.invariant-loop-left
invariant-loop-left l =
    LaterLeft l.packet l.decoder.codebooks.books.now l.decoder.codebooks.lengths.now l.decoder.codebooks.codewords.now l.decoder.plans.now l.decoder.residue l.decoder.head l.start l.live l.decoder.digits l.decoder.top l.partitions l.pass l.initial.out l.initial.next l.out l.next l.place l.left

abbrev pub decreases-loop-left : goal.decreases-loop-left
decreases-loop-left l = l.left
