-- Which mappings meet the rules (01, "When the packet is sent back"). Each claim is by the predicate by which a packet is judged, crates/rules/specs/Rules.antt.
use Rattle.std.specs.Prelude.{ℕ, true, ◌≡◌, length}
use Rattle.reading.specs.Lists.{all}
use Rattle.reading.specs.Encoding.{Each}
use Rattle.rules.specs.Rules as Rule
use Rattle.mapping.specs.Content.{Coupling, Submap, Mapping}

-- 11, for so many channels and where so many floors and residues are set up
pub record Coupling11 (channels : ℕ) (c : Coupling) : Type 0 where
  pub magnitude : Rule.meets11 (Rule.channel channels c.magnitude) ≡ true
  pub angle : Rule.meets11 (Rule.channel channels c.angle) ≡ true
  pub coupled : Rule.meets11 (Rule.coupled c.magnitude c.angle) ≡ true

pub record Submap11 (floors residues : ℕ) (m : Submap) : Type 0 where
  pub floor : Rule.meets11 (Rule.floor floors m.floor) ≡ true
  pub residue : Rule.meets11 (Rule.residue residues m.residue) ≡ true

pub record Mapping11 (channels floors residues : ℕ) (m : Mapping) : Type 0 where
  pub couplings : Each (Coupling11 channels) m.couplings
  pub multiplex : all (λ v. Rule.meets11 (Rule.submap (length m.submaps) v)) m.multiplex ≡ true
  pub submaps : Each (Submap11 floors residues) m.submaps
