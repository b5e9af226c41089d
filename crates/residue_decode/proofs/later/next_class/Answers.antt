-- `later::next_class` meets its contract (proofs/LaterLaws). Assumes nothing.
use Rattle.residue_decode.proofs.LaterLaws.{seeking, seek_end}
use mathlib.Core.Path.{◌∙◌}
use Rattle.residue_decode.proofs.later.next_class.Goals as goal

pub loop-at-init : goal.loop-at-init
loop-at-init c = search seeking

pub returns-then-list-at-eq0 : goal.returns-then-list-at-eq0
returns-then-list-at-eq0 c = search seeking

pub loop-at-preserved : goal.loop-at-preserved
loop-at-preserved c = search seeking

pub returns : goal.returns
returns c = c.max.ensures ∙ seek_end c.loop-at.invariant c.loop-at-test.false
