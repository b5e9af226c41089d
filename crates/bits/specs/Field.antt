-- The bits of a packet, and the fields that are read from it (000, section 2; 01, "Bits and books").
use Rattle.std.specs.Prelude.{ℕ, zero, suc, ◌+◌, ◌*◌, ◌/◌, ◌%◌, ◌^◌, List, length, get_or, leb}
use Rattle.reading.specs.Outcome.{refusal, ok, need}
use Rattle.reading.specs.Reader.{Reader}

-- bit k of a packet is bit (k mod 8) of byte (k div 8), the lowest bit of a byte first (000, 2.1.4)
unfoldable pub bit_at : List ℕ → ℕ → ℕ
bit_at s k = get_or s (k / 8) 0 / 2 ^ (k % 8) % 2

-- the value of w bits from bit k on: the sum of bit i times 2 ^ i (000, 2.1.6)
unfoldable pub value_at : List ℕ → ℕ → ℕ → ℕ
value_at s k zero = 0
value_at s k (suc w) = value_at s k w + bit_at s (k + w) * 2 ^ w

-- the field of w bits at bit k. It is cut, refusal 1 at its first bit, where its last bit lies past the packet's end; then no position
-- follows, so nothing more is read. A field of 0 bits is 0, even at the end (01; 000, 2.1.7 and 2.1.8)
unfoldable pub field : ℕ → Reader ℕ
field w s k = need (leb (k + w) (8 * length s)) (refusal 1 k) (ok (value_at s k w, k + w))
