-- A mapping as content (003, 4.2.4, "Mappings"), without form: neither the submap flag nor the byte that is read and discarded.
use Rattle.std.specs.Prelude.{ℕ, List, []}

-- a coupling step
pub record Coupling : Type 0 where
  pub magnitude : ℕ
  pub angle : ℕ

pub record Submap : Type 0 where
  pub floor : ℕ
  pub residue : ℕ

pub record Mapping : Type 0 where
  pub couplings : List Coupling
  -- each channel's submap; content only where there is more than one, so empty where there is one
  pub multiplex : List ℕ
  pub submaps : List Submap

-- what stands for a coupling step, a submap or a mapping past the last
abbrev pub no_coupling : Coupling
no_coupling = record { magnitude = 0; angle = 0 }

abbrev pub no_submap : Submap
no_submap = record { floor = 0; residue = 0 }

abbrev pub no_mapping : Mapping
no_mapping = record { couplings = []; multiplex = []; submaps = [] }
