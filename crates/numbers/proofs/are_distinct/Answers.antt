-- `numbers::are_distinct` meets its contract. Assumes nothing.
use native.Mathlib.Omega.{arith}
use mathlib.Core.Path.{sym, ◌∙◌}
use Rattle.numbers.proofs.NumberLaws.{distinct_end, distinct_not, distinct_later}
use Rattle.numbers.proofs.are_distinct.Goals as goal

pub returns-then-contains : goal.returns-then-contains
returns-then-contains c = sym (distinct_not _ c.loop-i.i (omega arith) c.contains.ensures.value c.if-contains.true) ∙ c.loop-i.invariant

pub loop-i-preserved : goal.loop-i-preserved
loop-i-preserved c = distinct_later _ c.loop-i.i (omega arith) c.contains.ensures.value c.if-contains.false ∙ c.loop-i.invariant

pub returns : goal.returns
returns c = sym (distinct_end _ c.loop-i.i (omega arith)) ∙ c.loop-i.invariant
