-- `codespace::space::smallest_block` meets its contract: what is left to search finds what the whole search finds. Assumes nothing.
use mathlib.Core.Path.{◌≡◌, sym, ◌∙◌}
use native.Mathlib.Omega.{arith}
use Rattle.codespace.proofs.Steps.{occupied_here, occupied_on, occupied_end}
use Rattle.codespace.proofs.space.smallest_block.Goals as goal

pub returns-then-blocks-h-lt-VACANT : goal.returns-then-blocks-h-lt-VACANT
returns-then-blocks-h-lt-VACANT c =
    sym (occupied_here c.args.blocks.now c.loop-h.h (omega arith) c.if-blocks-h-lt-VACANT.true) ∙ c.loop-h.invariant.2

pub loop-h-preserved : goal.loop-h-preserved
loop-h-preserved c =
    (omega arith, omega arith, sym (occupied_on c.args.blocks.now c.loop-h.h (omega arith) c.if-blocks-h-lt-VACANT.false) ∙ c.loop-h.invariant.2)

pub returns : goal.returns
returns c =
    let e : c.loop-h.h ≡ 33 = omega arith in
    sym e ∙ (sym (occupied_end c.args.blocks.now c.loop-h.h c.loop-h-test.false) ∙ c.loop-h.invariant.2)
