-- A mapping read back from its row.
use Rattle.std.specs.Prelude.{ℕ, zero, suc, ◌+◌, ◌*◌, List, [], ◌∷◌, get_or, take, drop}
use Rattle.mapping.specs.Content.{Coupling, Submap, Mapping}
use Rattle.mapping.specs.Layout.{couplings_place, multiplex_place, submaps_place, couplings_room, multiplex_room, submaps_room}

abbrev pub coupling_of : ℕ → ℕ → Coupling
coupling_of magnitude angle = record { magnitude = magnitude; angle = angle }

abbrev pub submap_of : ℕ → ℕ → Submap
submap_of floor residue = record { floor = floor; residue = residue }

-- n items of two numbers each
unfoldable pub pairs : {A : Type 0} → (ℕ → ℕ → A) → ℕ → List ℕ → List A
pairs pair zero cells = []
pairs pair (suc n) [] = []
pairs pair (suc n) (a ∷ []) = []
pairs pair (suc n) (a ∷ b ∷ cells) = pair a b ∷ pairs pair n cells

-- the numbers that stand plus one, up to the first zero
unfoldable pub less_one : List ℕ → List ℕ
less_one [] = []
less_one (zero ∷ cells) = []
less_one (suc v ∷ cells) = v ∷ less_one cells

unfoldable pub decode_mapping : List ℕ → Mapping
decode_mapping row =
    record {
      couplings = pairs coupling_of (get_or row 0 0 + 256 * get_or row 1 0) (take couplings_room (drop couplings_place row));
      multiplex = less_one (take multiplex_room (drop multiplex_place row));
      submaps = pairs submap_of (get_or row 2 0) (take submaps_room (drop submaps_place row));
    }
