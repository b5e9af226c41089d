-- A mapping as its row in the tables has it, and what is known of it where the tables are sound: each function of src/lib.rt gives the content's number.
use Rattle.std.specs.Prelude.{ℕ, ◌+◌, ◌-◌, ◌*◌, ◌≤◌, ◌<◌, List, ◌≡◌, length, get_or, take, drop}
use Rattle.mapping.specs.Content.{Mapping, no_coupling, no_submap}
use Rattle.mapping.specs.Layout.{mapping_width, couplings_place, multiplex_place, submaps_place}
use Rattle.mapping.specs.Inner.Decode.{decode_mapping}

-- mapping number n
unfoldable pub mapping_in : List ℕ → ℕ → Mapping
mapping_in mappings n = decode_mapping (take mapping_width (drop (mapping_width * n) mappings))

-- mapping number n of the table t is m, for so many channels
pub record MappingIs (channels : ℕ) (t : List ℕ) (n : ℕ) (m : Mapping) : Type 0 where
  pub few : n < 64
  pub steps : get_or t (mapping_width * n) 0 + 256 * get_or t (mapping_width * n + 1) 0 ≡ length m.couplings
  pub steps_few : length m.couplings ≤ 256
  pub magnitude : (j : ℕ) → j < length m.couplings → get_or t (mapping_width * n + (couplings_place + 2 * j)) 0 ≡ (get_or m.couplings j no_coupling).magnitude
  pub angle : (j : ℕ) → j < length m.couplings → get_or t (mapping_width * n + (couplings_place + 2 * j + 1)) 0 ≡ (get_or m.couplings j no_coupling).angle
  -- both are channels
  pub magnitude_set_up : (j : ℕ) → j < length m.couplings → (get_or m.couplings j no_coupling).magnitude < channels
  pub angle_set_up : (j : ℕ) → j < length m.couplings → (get_or m.couplings j no_coupling).angle < channels
  pub submaps : get_or t (mapping_width * n + 2) 0 ≡ length m.submaps
  pub submaps_few : length m.submaps ≤ 16
  -- the submap of every channel: 0 where there is but one
  pub channel_submap : (c : ℕ) → c < 256 → get_or t (mapping_width * n + (multiplex_place + c)) 0 - 1 ≡ get_or m.multiplex c 0
  pub submap_set_up : (c : ℕ) → c < channels → get_or m.multiplex c 0 < length m.submaps
  pub floor : (j : ℕ) → j < length m.submaps → get_or t (mapping_width * n + (submaps_place + 2 * j)) 0 ≡ (get_or m.submaps j no_submap).floor
  pub residue : (j : ℕ) → j < length m.submaps → get_or t (mapping_width * n + (submaps_place + 2 * j + 1)) 0 ≡ (get_or m.submaps j no_submap).residue

-- it is what its row decodes to
abbrev pub MappingReadable : ℕ → List ℕ → ℕ → Type 0
MappingReadable channels t n = MappingIs channels t n (mapping_in t n)
