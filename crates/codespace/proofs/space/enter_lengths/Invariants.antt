-- `codespace::space::enter_lengths` meets its contract: after each turn the answers to the lengths entered stand in front, with zeros behind them.
-- Assumes nothing.
use Rattle.codespace.proofs.Numbers.{Entering}
use Rattle.codespace.proofs.space.enter_lengths.Given as goal

abbrev pub invariant-loop-i : goal.invariant-loop-i
invariant-loop-i l = Entering l.lengths l.initial.answers l.answers l.blocks l.i
