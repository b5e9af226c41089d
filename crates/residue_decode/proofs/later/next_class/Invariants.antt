-- `later::next_class` meets its contract (proofs/LaterLaws). Assumes nothing.
use Rattle.residue_decode.proofs.LaterLaws.{Seeking}
use Rattle.residue_decode.proofs.later.next_class.Given as goal

abbrev pub invariant-loop-at : goal.invariant-loop-at
invariant-loop-at l = Seeking l.list l.from l.at
