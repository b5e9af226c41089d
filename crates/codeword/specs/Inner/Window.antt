-- The next bits of a packet, taken at once; bytes that are zero.
use Rattle.std.specs.Prelude.{ℕ, ◌+◌, ◌*◌, ◌/◌, ◌%◌, ◌^◌, ◌≤◌, ◌<◌, List, ◌≡◌, length, get_or}
use Rattle.bits.specs.Field.{bit_at}

-- `bits` has the next `count` bits from bit k on, the first the lowest: 32, or as many as there are
pub record NextBits (s : List ℕ) (k count bits : ℕ) : Type 0 where
  pub few : count ≤ 32
  pub there : (i : ℕ) → i < count → k + i < 8 * length s
  pub all : count < 32 → 8 * length s ≤ k + count
  pub same : (i : ℕ) → i < count → bits / 2 ^ i % 2 ≡ bit_at s (k + i)

-- every byte from one place to another is 0
pub record Zeros (s : List ℕ) (from end : ℕ) : Type 0 where
  pub zero : (f : ℕ) → from ≤ f → f < end → get_or s f 0 ≡ 0
