-- `codeword::unused::past_unused` meets its contract: the entries passed so far are unused. Assumes nothing.
use native.Mathlib.Omega.{arith}
use Rattle.codeword.proofs.Windows.{zeros_four}
use Rattle.codeword.proofs.unused.past_unused.Goals as goal

pub loop-at-init : goal.loop-at-init
loop-at-init c = (omega arith, c.requires, record { zero = λ f a b. absurd (omega arith) })

pub loop-at-preserved : goal.loop-at-preserved
loop-at-preserved c = (omega arith, omega arith, zeros_four _ _ _ c.loop-at.invariant.2 (c.four_lengths.ensures c.if-four_lengths-ne0.false))
