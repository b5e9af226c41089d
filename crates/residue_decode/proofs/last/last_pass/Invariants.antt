-- `last::last_pass` meets its contract (proofs/LastLaws). Assumes nothing.
use Rattle.residue_decode.proofs.LastLaws.{Searched}
use Rattle.residue_decode.proofs.last.last_pass.Given as goal

abbrev pub invariant-loop-place : goal.invariant-loop-place
invariant-loop-place l = Searched l.plans l.residue l.last l.place
