-- `power::grows_within` meets its contract, by Laws: so many factors are taken. Assumes nothing.
use mathlib.Core.Path.{◌≡◌}
use Rattle.power.proofs.Laws.{Growing}
use Rattle.power.proofs.grows_within.Given as goal

abbrev pub invariant-loop : goal.invariant-loop
invariant-loop l = (l.most ≡ l.bound) × Growing l.base l.exponent l.power l.counter
