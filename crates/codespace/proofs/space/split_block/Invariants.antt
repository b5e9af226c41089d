-- `codespace::space::split_block` meets its contract: the places from `h` up to `from` hold the upper halves. Assumes nothing.
use Prim.Native.Nat.{◌≤◌, ◌-◌}
use mathlib.Core.Path.{◌≡◌}
use Rattle.codespace.specs.Inner.Steps.{upper_halves}
use Rattle.codespace.proofs.space.split_block.Given as goal

abbrev pub invariant-loop-h : goal.invariant-loop-h
invariant-loop-h l = (l.height ≤ l.h) × (l.h ≤ l.from) × (l.blocks ≡ upper_halves l.h (l.from - l.h) l.first l.initial.blocks)
