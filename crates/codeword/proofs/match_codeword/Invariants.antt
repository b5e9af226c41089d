-- `codeword::match_codeword` meets its contract, by LoopLaws. Assumes nothing.
use Prim.Native.Nat.{◌-◌}
use lib.ListN.{length}
use Rattle.bits.specs.Inner.Cursors.{position}
use Rattle.codeword.proofs.LoopLaws.{Taking, Searching}
use Rattle.codeword.proofs.match_codeword.Given as goal

abbrev pub invariant-entry : goal.invariant-entry
invariant-entry l = Searching l.lengths l.codewords l.packet (position l.from) l.next.count l.word l.taken l.entry

abbrev pub decreases-entry : goal.decreases-entry
decreases-entry l = length l.lengths - l.entry

abbrev pub invariant-word : goal.invariant-word
invariant-word l = Taking l.lengths l.codewords l.packet (position l.from) l.next.count l.word l.taken l.entry

abbrev pub decreases-word : goal.decreases-word
decreases-word l = l.next.count - l.taken
