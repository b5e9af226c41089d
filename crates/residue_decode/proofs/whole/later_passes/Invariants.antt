-- `whole::later_passes` meets its contract (proofs/WholeLaws). Assumes nothing.
use Rattle.residue_decode.proofs.WholeLaws.{PassesLeft}
use Rattle.residue_decode.proofs.whole.later_passes.Given as goal

abbrev pub invariant-loop-pass : goal.invariant-loop-pass
invariant-loop-pass l =
    PassesLeft l.packet l.decoder.codebooks.books.now l.decoder.codebooks.lengths.now l.decoder.codebooks.codewords.now l.decoder.plans.now l.decoder.residue l.decoder.head l.start l.live l.decoder.digits l.decoder.top l.partitions l.last l.initial.out l.initial.next l.out l.next l.pass
