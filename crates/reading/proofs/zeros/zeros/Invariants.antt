-- `reading::zeros::zeros` meets its contract: the numbers from the first on are zeros where `any` is, and all depends on the others. Assumes nothing.
use Rattle.reading.proofs.Zeroing.{Zeroing}
use Rattle.reading.proofs.zeros.zeros.Given as goal

abbrev pub invariant-loop-number : goal.invariant-loop-number
invariant-loop-number g l = Zeroing g.T.Number.ZERO l.number-items l.number-index l.any
