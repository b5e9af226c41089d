-- `power::power_within` meets its contract, by Laws. Assumes nothing.
use Rattle.power.proofs.Laws.{powers}
use Rattle.power.proofs.power_within.Goals as goal

pub returns-then-base-lt2 : goal.returns-then-base-lt2
returns-then-base-lt2 c = search powers
