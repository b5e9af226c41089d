-- `codespace::space::enter_lengths` meets its contract: after each turn the answers to the lengths entered stand in front, with zeros behind them.
-- Assumes nothing.
use Rattle.codespace.proofs.Places.{reached_length}
use Rattle.codespace.proofs.Numbers.{entering_start, entering_turn, entered_short, all_entered, all_balanced}
use Rattle.codespace.proofs.space.enter_lengths.Goals as goal

pub returns-then-answers-lengths-clause-answers_after : goal.returns-then-answers-lengths-clause-answers_after
returns-then-answers-lengths-clause-answers_after c = entered_short _ _ _ c.clear.ensures c.if-answers-lengths.true

pub loop-i-init : goal.loop-i-init
loop-i-init c = entering_start _ _ _ c.clear.ensures _ c.if-answers-lengths.false c.empty_space-blocks.ensures.1

pub enter-requires : goal.enter-requires
enter-requires c = reached_length _ _ c.loop-i.invariant.reached

pub loop-i-preserved : goal.loop-i-preserved
loop-i-preserved c = entering_turn _ _ _ _ _ _ _ c.loop-i-test.true c.loop-i.invariant c.enter.ensures

pub returns-clause-answers_after : goal.returns-clause-answers_after
returns-clause-answers_after c = all_entered _ _ _ c.clear.ensures _ _ _ c.loop-i-test.false c.loop-i.invariant

pub returns-clause-balanced : goal.returns-clause-balanced
returns-clause-balanced c = λ z. all_balanced _ _ _ c.clear.ensures _ _ _ c.loop-i-test.false c.loop-i.invariant
