-- Which floor each channel has, which channels are live, and the residues of all submaps (003, 4.3.2 to 4.3.4; 01, "Audio order" 2, 4 and 5).
-- Assumes nothing: these are definitions.
use Rattle.std.specs.Prelude.{ℕ, suc, ◌*◌, min, Bool, true, false, cond, ◌&&◌, ◌||◌, List, [], ◌∷◌, map, eqb, length, get_or, set}
use Rattle.reading.specs.Least.{count}
use Rattle.reading.specs.Tabulate.{tabulate}
use Rattle.floor.specs.Content.{Floor}
use Rattle.residue.specs.Content.{Residue}
use Rattle.mapping.specs.Content.{Coupling, Submap, Mapping, no_submap}
use Rattle.requests.specs.Requests.{Requests, done, bind}
use Rattle.floor_requests.specs.Requests.{FloorRead, unused, values}
use Rattle.residue_requests.specs.Requests.{residue_requests, partition_count}

-- a channel's submap; 0 where there is but one
unfoldable pub submap_of : Mapping → ℕ → ℕ
submap_of m channel = get_or m.multiplex channel 0

-- the number of a channel's floor
unfoldable pub floor_number : Mapping → ℕ → ℕ
floor_number m channel = (get_or m.submaps (submap_of m channel) no_submap).floor

-- 2: the floor of each channel, where `floor_at` gives a floor by its number
unfoldable pub floors_of : (ℕ → Floor) → Mapping → ℕ → List Floor
floors_of floor_at m channels = map floor_at (tabulate (floor_number m) channels)

-- 4: a channel has residue (is live) if its floor is used
unfoldable pub is_used : FloorRead → Bool
is_used unused = false
is_used (values ys) = true

-- of a coupling step's channels both are live, if either is
unfoldable pub couple : Coupling → List Bool → List Bool
couple c live =
    cond (get_or live c.magnitude false || get_or live c.angle false) (set (set live c.magnitude true) c.angle true) live

-- the steps in order, once
unfoldable pub coupled : List Coupling → List Bool → List Bool
coupled [] live = live
coupled (c ∷ cs) live = coupled cs (couple c live)

-- 5: how many channels a submap has, and how many live ones
unfoldable pub channels_of : Mapping → ℕ → ℕ → ℕ
channels_of m channels submap = count (λ c. eqb (submap_of m c) submap) channels

unfoldable pub live_of : Mapping → List Bool → ℕ → ℕ
live_of m live submap = count (λ c. eqb (submap_of m c) submap && get_or live c false) (length live)

-- type 2 has one vector with the places of all channels of the submap; each vector of another type has those of one channel
unfoldable pub vector_size : Residue → ℕ → ℕ → ℕ
vector_size r half channels = cond (eqb r.type 2) (half * channels) half

-- type 2's is read if any of them is live; of other types that of each live channel
unfoldable pub vector_count : Residue → ℕ → ℕ
vector_count r live = cond (eqb r.type 2) (min 1 live) live

-- the codewords of one submap's residue r, where half the block size is `half`
unfoldable pub submap_requests : (ℕ → ℕ) → ℕ → Mapping → List Bool → ℕ → Residue → Requests Unit
submap_requests dimensions_of half m live submap r =
    residue_requests submap dimensions_of r (vector_count r (live_of m live submap)) (partition_count r (vector_size r half (channels_of m (length live) submap)))

-- of each submap in order, from number n on, where `residue_at` gives a residue by its number
unfoldable pub all_requests : (ℕ → ℕ) → (ℕ → Residue) → ℕ → Mapping → List Bool → ℕ → List Submap → Requests Unit
all_requests dimensions_of residue_at half m live n [] = done tt
all_requests dimensions_of residue_at half m live n (x ∷ xs) =
    bind (submap_requests dimensions_of half m live n (residue_at x.residue)) (λ _. all_requests dimensions_of residue_at half m live (suc n) xs)
