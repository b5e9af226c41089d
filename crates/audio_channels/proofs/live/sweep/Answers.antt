-- `audio_channels::live::sweep` meets its contract, by LiveLaws. Assumes nothing.
use Rattle.audio_channels.proofs.LiveLaws.{steps_next, steps_done, stepping}
use borrow.Author.Rules.{rules}
use Rattle.audio_channels.proofs.live.sweep.Goals as goal

pub loop-i-init : goal.loop-i-init
loop-i-init c = search stepping

pub magnitude-first-requires : goal.magnitude-first-requires
magnitude-first-requires c = search stepping

pub angle-second-requires : goal.angle-second-requires
angle-second-requires c = search stepping

pub couple-requires : goal.couple-requires
couple-requires c = search stepping

pub loop-i-preserved : goal.loop-i-preserved
loop-i-preserved c =
    let pre = c.requires in
    steps_next _ _ _ _ pre.0 pre.1 pre.2 c.loop-i.invariant c.coupling_steps-i-end.ensures c.loop-i-test.true
    c.magnitude-first.ensures c.angle-second.ensures c.couple.ensures

pub returns : goal.returns
returns c = search (rules, steps_done)
