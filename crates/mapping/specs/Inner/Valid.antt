-- Which mappings a packet can carry and meet every rule; of the parts of one, the rules alone.
use Rattle.std.specs.Prelude.{ℕ, true, ◌≡◌}
use Rattle.rules.specs.Rules as Rule
use Rattle.mapping.specs.Content.{Submap, Mapping}
use Rattle.mapping.specs.Carried.{CarriedMapping}
use Rattle.mapping.specs.Rules.{Submap11, Mapping11}
use Rattle.mapping.specs.declared.Known.{Known}

-- a channel's submap, of so many
abbrev pub ValidMultiplex : ℕ → ℕ → Type 0
ValidMultiplex submaps v = Rule.meets11 (Rule.submap submaps v) ≡ true

abbrev pub ValidSubmap : Known → Submap → Type 0
ValidSubmap known = Submap11 known.floors known.residues

pub record ValidMapping (known : Known) (m : Mapping) : Type 0 where
  pub carried : CarriedMapping known.channels m
  pub rule11 : Mapping11 known.channels known.floors known.residues m
