-- Which modes a packet can carry and meet every rule, where `mappings` mappings are set up.
use Rattle.std.specs.Prelude.{ℕ}
use Rattle.mode.specs.Content.{Mode}
use Rattle.mode.specs.Carried.{CarriedMode}
use Rattle.mode.specs.Rules.{Mode11}

pub record ValidMode (mappings : ℕ) (m : Mode) : Type 0 where
  pub carried : CarriedMode m
  pub rule11 : Mode11 mappings m
