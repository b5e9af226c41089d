-- Channels worked out: which are live behind coupling steps, which belong to a submap, and how many vectors and partitions a submap's residue has.
use Rattle.std.specs.Prelude.{ℕ, true, false, [], ◌∷◌, ◌≡◌, refl}
use Rattle.reading.specs.Least.{count}
use Rattle.reading.specs.Tabulate.{tabulate}
use Rattle.residue.specs.Content.{Residue}
use Rattle.mapping.specs.Content.{Coupling, Mapping}
use Rattle.residue_requests.specs.Requests.{partition_count}
use Rattle.audio.specs.Channels.{submap_of, floor_number, couple, coupled, channels_of, live_of, vector_size, vector_count}

abbrev step : ℕ → ℕ → Coupling
step magnitude angle = record { magnitude = magnitude; angle = angle }

-- channels 0 and 2 have submap 1, channel 1 has submap 0
abbrev multiplexed : Mapping
multiplexed =
    record { couplings = []; multiplex = 1 ∷ 0 ∷ 1 ∷ []; submaps = record { floor = 4; residue = 0 } ∷ record { floor = 5; residue = 1 } ∷ [] }

-- values 10 to 59, in partitions of 8
abbrev residue_of : ℕ → Residue
residue_of type = record { type = type; begin = 10; end = 60; size = 8; classifications = 1; classbook = 0; plan = [] }

pub record ChannelVectors : Type 0 where
  -- of three channels the first is used: steps in order reach the third through the second, and in the other order do not
  pub in_order : coupled (step 0 1 ∷ step 1 2 ∷ []) (true ∷ false ∷ false ∷ []) ≡ true ∷ true ∷ true ∷ []
  pub other_order : coupled (step 1 2 ∷ step 0 1 ∷ []) (true ∷ false ∷ false ∷ []) ≡ true ∷ true ∷ false ∷ []
  -- a used angle makes its magnitude live too; where neither is used, neither is live
  pub by_angle : coupled (step 0 1 ∷ []) (false ∷ true ∷ []) ≡ true ∷ true ∷ []
  pub neither : coupled (step 0 1 ∷ []) (false ∷ false ∷ true ∷ []) ≡ false ∷ false ∷ true ∷ []
  -- each channel's floor is that of its submap; a submap's channels, and the live ones among them
  pub floors : tabulate (floor_number multiplexed) 3 ≡ 5 ∷ 4 ∷ 5 ∷ []
  pub channels : channels_of multiplexed 3 1 ≡ 2
  pub live : live_of multiplexed (true ∷ true ∷ false ∷ []) 1 ≡ 1
  -- of two channels with 32 values each, both live: two vectors of 32, values 10 to 31; of type 2 one vector of 64, values 10 to 59
  pub vectors : vector_count (residue_of 1) 2 ≡ 2
  pub vectors_type2 : vector_count (residue_of 2) 2 ≡ 1
  pub partitions : partition_count (residue_of 1) (vector_size (residue_of 1) 32 2) ≡ 2
  pub partitions_type2 : partition_count (residue_of 2) (vector_size (residue_of 2) 32 2) ≡ 6
  -- no vector where none is live; no partition where the values begin past the vector
  pub none_live : vector_count (residue_of 2) 0 ≡ 0
  pub past_vector : partition_count (residue_of 1) 9 ≡ 0

pub channels : ChannelVectors
unfolding submap_of floor_number couple coupled channels_of live_of vector_size vector_count partition_count count tabulate
channels =
    record {
      in_order = refl;
      other_order = refl;
      by_angle = refl;
      neither = refl;
      floors = refl;
      channels = refl;
      live = refl;
      vectors = refl;
      vectors_type2 = refl;
      partitions = refl;
      partitions_type2 = refl;
      none_live = refl;
      past_vector = refl;
    }
