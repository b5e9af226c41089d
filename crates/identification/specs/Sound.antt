-- When an identity is sound: refusals 4 and 14 would not refuse it (01, "What the reader takes and gives").
use Rattle.std.specs.Prelude.{ℕ, ◌≤◌, Bool, true, ◌&&◌, List, [], ◌∷◌, ◌≡◌, leb, Result, Ok, Err}
use Rattle.reading.specs.Lists.{listed}
use Rattle.identification.specs.declared.Identity.{Identity}
use Rattle.bits.specs.declared.refusal.Refusal.{Refusal}

-- the block sizes that Vorbis I allows (003, 4.2.2)
abbrev pub allowed_sizes : List ℕ
allowed_sizes = 64 ∷ 128 ∷ 256 ∷ 512 ∷ 1024 ∷ 2048 ∷ 4096 ∷ 8192 ∷ []

-- under a limit on channels
pub record Sound (most : ℕ) (i : Identity) : Type 0 where
  pub some_channel : 1 ≤ i.channels
  pub few_channels : i.channels ≤ most
  pub some_rate : 1 ≤ i.rate
  pub first_size : listed i.blocksize0 allowed_sizes ≡ true
  pub second_size : listed i.blocksize1 allowed_sizes ≡ true
  pub in_order : i.blocksize0 ≤ i.blocksize1

-- the same as a test
unfoldable pub is_sound : ℕ → Identity → Bool
is_sound most i =
    leb 1 i.channels
    && (leb i.channels most
    && (leb 1 i.rate
    && (listed i.blocksize0 allowed_sizes
    && (listed i.blocksize1 allowed_sizes
    && leb i.blocksize0 i.blocksize1))))

-- an accepted identity is sound
unfoldable pub AcceptedSound : ℕ → Result Identity Refusal → Type 0
AcceptedSound most (Ok i) = Sound most i
AcceptedSound most (Err z) = Unit {0}
