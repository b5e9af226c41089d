-- `codespace::space::smallest_block` meets its contract: what is left to search finds what the whole search finds. Assumes nothing.
use Prim.Native.Nat.{◌≤◌, ◌-◌}
use mathlib.Core.Path.{◌≡◌}
use Rattle.codespace.specs.Inner.Steps.{first_occupied}
use Rattle.codespace.proofs.space.smallest_block.Given as goal

abbrev pub invariant-loop-h : goal.invariant-loop-h
invariant-loop-h l = (l.height ≤ l.h) × (l.h ≤ 33) × (first_occupied (33 - l.h) l.h l.blocks ≡ first_occupied (33 - l.height) l.height l.blocks)
