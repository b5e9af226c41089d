-- `floor_curve::fitting` meets its contract. Each return is one way out of the test. Assumes nothing.
use native.Mathlib.Omega.{arith}
use Rattle.std.proofs.lemmas.Bool.Decides.{nat_tests}
use Rattle.floor_curve.specs.Curve.{fitting}
use Rattle.floor_curve.proofs.fitting.Goals as goal

pub returns-then-y-x : goal.returns-then-y-x
unfolding fitting
returns-then-y-x c = grind (arith, nat_tests)

pub returns-else-y-x : goal.returns-else-y-x
unfolding fitting
returns-else-y-x c = grind (arith, nat_tests)
