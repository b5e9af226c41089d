-- Which number of a mapping each place of its row holds: with `mappings_stored`, what the functions of src/lib.rt give. Assumes nothing.
use Prim.Native.Nat.{ℕ, zero, suc, ◌+◌, ◌-◌, ◌*◌, ◌/◌, ◌%◌, ◌≤◌, ◌<◌}
use native.Mathlib.Omega.{arith}
use mathlib.Core.List.{List, [], ◌∷◌, ◌++◌, map}
use mathlib.Core.Path.{◌≡◌, refl, ap, ◌∙◌}
use lib.ListN.{length, get_or}
use Rattle.reading.specs.Lists.{rows}
use Rattle.reading.specs.Pad.{pad}
use Rattle.reading.proofs.Pads.{length-pad}
use Rattle.reading.proofs.Stored.{Stored, stored_at, stored_left, stored_right, stored_first, stored_rest, stored_number, rows_stored_in, rows_stored}
use Rattle.mapping.specs.Content.{Coupling, Submap, Mapping}
use Rattle.mapping.specs.Layout.{mapping_width, couplings_place, multiplex_place, submaps_place, couplings_room, multiplex_room, submaps_room, coupling_row, submap_row, mapping_row}
use Rattle.mapping.proofs.RowLaws.{coupling_wide, submap_wide, mapping_wide}

-- the numbers of a mapping that lies in a table
pub record MappingStored (t : List ℕ) (at : ℕ) (m : Mapping) : Type 0 where
  pub steps_low : get_or t at 0 ≡ length m.couplings % 256
  pub steps_high : get_or t (at + 1) 0 ≡ length m.couplings / 256
  pub submap_count_is : get_or t (at + 2) 0 ≡ length m.submaps
  pub couplings : Stored t (at + couplings_place) (pad couplings_room (rows coupling_row m.couplings))
  pub multiplex : Stored t (at + multiplex_place) (pad multiplex_room (map suc m.multiplex))
  pub submaps : Stored t (at + submaps_place) (pad submaps_room (rows submap_row m.submaps))

pub mapping_stored : {t : List ℕ} {at : ℕ} (m : Mapping) → Stored t at (mapping_row m) → MappingStored t at m
unfolding mapping_row
mapping_stored {t} {at} m l =
    let C = pad couplings_room (rows coupling_row m.couplings) in
    let X = pad multiplex_room (map suc m.multiplex) in
    let S = pad submaps_room (rows submap_row m.submaps) in
    let l₁ = stored_rest l in
    let l₂ : Stored t (at + 2) (length m.submaps ∷ 0 ∷ (C ++ (X ++ S))) = stored_at (omega arith) (stored_rest l₁) in
    let l₄ : Stored t (at + couplings_place) (C ++ (X ++ S)) = stored_at (omega arith) (stored_rest (stored_rest l₂)) in
    let c = length-pad couplings_room (rows coupling_row m.couplings) in
    let x = length-pad multiplex_room (map suc m.multiplex) in
    let l₅ : Stored t (at + multiplex_place) (X ++ S) = stored_at (omega arith) (stored_right C (X ++ S) l₄) in
    record {
      steps_low = stored_first l;
      steps_high = stored_first l₁;
      submap_count_is = stored_first l₂;
      couplings = stored_left C (X ++ S) l₄;
      multiplex = stored_left X S l₅;
      submaps = stored_at (omega arith) (stored_right X S l₅);
    }

-- IN A TABLE THAT IS THE WRITING-OUT OF MAPPINGS, MAPPING i LIES AT i TIMES THE WIDTH; d stands for a mapping past the last
pub mappings_stored : (ms : List Mapping) (t : List ℕ) → t ≡ pad (length t) (rows mapping_row ms) → mapping_width * length ms ≤ length t → (i : ℕ) → i < length ms → (d : Mapping) → MappingStored t (mapping_width * i) (get_or ms i d)
mappings_stored ms t e h i k d = mapping_stored (get_or ms i d) (rows_stored mapping_row mapping_width mapping_wide d ms t e h i k)

-- multiplex numbers stand plus one, zero where there is none
less_one : (l : List ℕ) (c : ℕ) → get_or (map suc l) c 0 - 1 ≡ get_or l c 0
less_one [] c = refl
less_one (v ∷ l) zero = omega arith
less_one (v ∷ l) (suc c) = less_one l c

-- what each place of a mapping that lies at `at` holds; d stands for an item past the last
module _ {t : List ℕ} {at : ℕ} {m : Mapping} (l : MappingStored t at m) where
  pub coupling_steps_is : get_or t at 0 + 256 * get_or t (at + 1) 0 ≡ length m.couplings
  coupling_steps_is = let a = l.steps_low in let b = l.steps_high in omega arith

  pub submaps_is : get_or t (at + 2) 0 ≡ length m.submaps
  submaps_is = l.submap_count_is

  -- coupling step j
  module _ (j : ℕ) (g : j < length m.couplings) (few : length m.couplings ≤ 256) (d : Coupling) where
    step : Stored t (at + couplings_place + 2 * j) (coupling_row (get_or m.couplings j d))
    step = rows_stored_in coupling_row 2 coupling_wide d couplings_room m.couplings l.couplings (omega arith) j g

    pub magnitude_is : get_or t (at + (couplings_place + 2 * j)) 0 ≡ (get_or m.couplings j d).magnitude
    unfolding coupling_row
    magnitude_is = ap (λ (k : ℕ). get_or t k 0) (omega arith) ∙ stored_first step

    pub angle_is : get_or t (at + (couplings_place + 2 * j + 1)) 0 ≡ (get_or m.couplings j d).angle
    unfolding coupling_row
    angle_is = ap (λ (k : ℕ). get_or t k 0) (omega arith) ∙ stored_first (stored_rest step)

  -- a channel's submap, 0 where there is but one
  pub channel_submap_is : (c : ℕ) → c < 256 → get_or t (at + (multiplex_place + c)) 0 - 1 ≡ get_or m.multiplex c 0
  channel_submap_is c g =
      ap (λ (v : ℕ). v - 1) (ap (λ (k : ℕ). get_or t k 0) (omega arith) ∙ stored_number 256 (map suc m.multiplex) l.multiplex c g) ∙ less_one m.multiplex c

  -- submap j
  module _ (j : ℕ) (g : j < length m.submaps) (few : length m.submaps ≤ 16) (d : Submap) where
    pair : Stored t (at + submaps_place + 2 * j) (submap_row (get_or m.submaps j d))
    pair = rows_stored_in submap_row 2 submap_wide d 32 m.submaps l.submaps (omega arith) j g

    pub submap_floor_is : get_or t (at + (submaps_place + 2 * j)) 0 ≡ (get_or m.submaps j d).floor
    unfolding submap_row
    submap_floor_is = ap (λ (k : ℕ). get_or t k 0) (omega arith) ∙ stored_first pair

    pub submap_residue_is : get_or t (at + (submaps_place + 2 * j + 1)) 0 ≡ (get_or m.submaps j d).residue
    unfolding submap_row
    submap_residue_is = ap (λ (k : ℕ). get_or t k 0) (omega arith) ∙ stored_first (stored_rest pair)
