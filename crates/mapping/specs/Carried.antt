-- Which mappings a packet can carry, whatever the rules say of them (003): as many items as the numbers before say.
use Rattle.std.specs.Prelude.{ℕ, ◌≤◌, [], ◌≡◌, length}
use Rattle.reading.specs.Counted.{Counted}
use Rattle.mapping.specs.Content.{Mapping}

-- a multiplex exactly where there is more than one submap, a number for each channel
pub record CarriedMapping (channels : ℕ) (m : Mapping) : Type 0 where
  pub couplings : length m.couplings ≤ 256
  pub submaps : Counted 16 (length m.submaps)
  pub no_multiplex : length m.submaps ≡ 1 → m.multiplex ≡ []
  pub some_multiplex : 2 ≤ length m.submaps → length m.multiplex ≡ channels
