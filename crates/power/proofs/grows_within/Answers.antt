-- `power::grows_within` meets its contract, by Laws. Assumes nothing.
use Rattle.power.proofs.Laws.{powers}
use Rattle.power.proofs.grows_within.Goals as goal

pub returns-then-most-power : goal.returns-then-most-power
returns-then-most-power c = search powers

pub loop-preserved : goal.loop-preserved
loop-preserved c = search powers
