-- Laws of a packet's bytes, for a reader that takes whole bytes. Assumes nothing.
use Prim.Native.Nat.{ℕ, zero, suc, ◌+◌, ◌-◌, ◌*◌, ◌/◌, ◌%◌, ◌^◌, ◌≤◌, ◌<◌}
use native.Mathlib.Nat.{lt_of_lt_of_le, mod-eq_of_lt, mod-one, add_comm, one-mul}
use native.Mathlib.Numerals.{one-add}
use native.Mathlib.Omega.{arith}
use mathlib.Core.List.{List}
use mathlib.Core.Path.{◌≡◌, ap, sym, ◌∙◌}
use lib.Dec.{lit<}
use lib.Bits.{bit_and, and_mask}
use lib.ListN.{get_or}
use lib.Pow.{shl_exact, mod-pow-add, pow_mono}
use Rattle.bits.specs.Field.{bit_at, value_at}
use Rattle.bits.proofs.Values.{value_lt, value_add, value_window}

-- one shifted left by w is 2 ^ w, and one less is the mask of w bits
pub one_shl : (w : ℕ) → w ≤ 32 → (1 * 2 ^ w) % 2 ^ 64 ≡ 2 ^ w
one_shl w h = shl_exact {a = 1} 1 w 64 (lit< tt) (omega arith) ∙ one-mul (2 ^ w)

pub masked : (x w : ℕ) → w ≤ 32 → bit_and x ((1 * 2 ^ w) % 2 ^ 64 - 1) ≡ x % 2 ^ w
masked x w h = rw (one_shl w h) (and_mask x w)

module _ (s : List ℕ) where
  -- the low n bits of byte j are the packet's n bits from there
  byte_low : (j n : ℕ) → n ≤ 8 → value_at s (8 * j) n ≡ get_or s j 0 % 2 ^ n
  unfolding value_at bit_at
  byte_low j zero h = sym (mod-one _)
  byte_low j (suc n) h =
      let q : (8 * j + n) / 8 ≡ j = omega arith in
      let r : (8 * j + n) % 8 ≡ n = omega arith in
      rw (byte_low j n (omega arith), q, r) (add_comm _ _ ∙ sym (mod-pow-add (get_or s j 0) 1 n) ∙ ap (λ (x : ℕ). get_or s j 0 % 2 ^ x) (one-add n))

  -- a byte is the field of eight bits that begins with it
  pub byte_value : (j : ℕ) → get_or s j 0 < 256 → value_at s (8 * j) 8 ≡ get_or s j 0
  byte_value j h = byte_low j 8 (omega arith) ∙ mod-eq_of_lt h

  -- one byte more, as the code computes it
  pub bytes_more : (first j number : ℕ) → j < 5 → get_or s (first + j) 0 < 256 → number ≡ value_at s (8 * first) (8 * j)
      → number + (get_or s (first + j) 0 * 2 ^ (8 * j)) % 2 ^ 64 ≡ value_at s (8 * first) (8 * (j + 1))
  bytes_more first j number l h p =
      let e : 8 * (j + 1) ≡ 8 * j + 8 = omega arith in
      let f : 8 * first + 8 * j ≡ 8 * (first + j) = omega arith in
      rw (p, e, value_add s (8 * first) (8 * j) 8, f, byte_value (first + j) h, shl_exact 8 (8 * j) 64 h (omega arith))

  pub bytes_lt : (first j number : ℕ) → j < 5 → get_or s (first + j) 0 < 256 → number ≡ value_at s (8 * first) (8 * j)
      → number + (get_or s (first + j) 0 * 2 ^ (8 * j)) % 2 ^ 64 < 2 ^ 64
  bytes_lt first j number l h p =
      rw (bytes_more first j number l h p) (lt_of_lt_of_le (value_lt s (8 * first) (8 * (j + 1))) (pow_mono {i = 8 * (j + 1)} {j = 64} (omega arith)))

  -- w bits from bit k on, out of the bytes that hold them
  pub bits_of_bytes : (byte bit k w n number : ℕ) → k ≡ 8 * byte + bit → bit % 8 + w ≤ n → number ≡ value_at s (8 * (byte + bit / 8)) n
      → number / 2 ^ (bit % 8) % 2 ^ w ≡ value_at s k w
  bits_of_bytes byte bit k w n number q h p =
      let e : n ≡ bit % 8 + (w + (n - (bit % 8 + w))) = omega arith in
      let f : 8 * (byte + bit / 8) + bit % 8 ≡ k = omega arith in
      ap (λ (x : ℕ). x / 2 ^ (bit % 8) % 2 ^ w) (p ∙ ap (value_at s (8 * (byte + bit / 8))) e)
      ∙ value_window s (8 * (byte + bit / 8)) (bit % 8) w (n - (bit % 8 + w))
      ∙ ap (λ (x : ℕ). value_at s x w) f
