-- Laws of the window: the next bits of a packet, taken by whole bytes. Assumes nothing.
use Prim.Native.Nat.{ℕ, min, ◌+◌, ◌-◌, ◌*◌, ◌/◌, ◌%◌, ◌^◌, ◌≤◌, ◌<◌}
use native.Mathlib.Nat.{lt_of_lt_of_le, zero-div}
use native.Mathlib.Omega.{arith}
use mathlib.Core.List.{List}
use mathlib.Core.Path.{◌≡◌, ap, sym, ◌∙◌}
use mathlib.Core.Logic.{⊎_elim}
use lib.ListN.{length, get_or}
use lib.Pow.{shl_exact, shl-shr, pow_mono, shr-shr}
use Rattle.reading.proofs.Least.{lt_or_le}
use Rattle.bits.specs.Field.{bit_at, value_at}
use Rattle.bits.proofs.Values.{value_lt, value_add, value_bit}
use Rattle.bits.proofs.Bytes.{byte_value}
use Rattle.codeword.specs.Inner.Window.{NextBits, Zeros}

module _ (s : List ℕ) where
  -- one byte more, as the code computes it
  module _ (first j number : ℕ) (l : j < 8) (h : get_or s (first + j) 0 < 256) where
    abbrev more : ℕ
    more = number + (get_or s (first + j) 0 * 2 ^ (8 * j)) % 2 ^ 64

    pub bytes_more : number ≡ value_at s (8 * first) (8 * j) → more ≡ value_at s (8 * first) (8 * (j + 1))
    bytes_more p =
        let e : 8 * (j + 1) ≡ 8 * j + 8 = omega arith in
        let f : 8 * first + 8 * j ≡ 8 * (first + j) = omega arith in
        rw (p, e, value_add s (8 * first) (8 * j) 8, f, byte_value s (first + j) h, shl_exact 8 (8 * j) 64 h (omega arith))

    pub bytes_lt : number ≡ value_at s (8 * first) (8 * j) → more < 2 ^ 64
    bytes_lt p = rw (bytes_more p) (lt_of_lt_of_le (value_lt s (8 * first) (8 * (j + 1))) (pow_mono {i = 8 * (j + 1)} {j = 64} (omega arith)))

    -- where the number is 0, so is each of its bytes
    pub zeros_more : (number ≡ 0 → Zeros s first (first + j)) → more ≡ 0 → Zeros s first (first + (j + 1))
    zeros_more z e =
        let v = get_or s (first + j) 0 in
        let m : v * 2 ^ (8 * j) ≡ 0 = sym (shl_exact 8 (8 * j) 64 h (omega arith)) ∙ omega arith in
        let y : v ≡ 0 = sym (shl-shr v (8 * j)) ∙ rw m (zero-div _) in
        record {
          zero = λ f a b.
              ⊎_elim
              (λ (u : f < first + j). (z (omega arith)).zero f a u)
              (λ (u : first + j ≤ f). let g : f ≡ first + j = omega arith in rw g y)
              (lt_or_le f (first + j));
        }

  pub zeros_none : (at : ℕ) → Zeros s at (at + 0)
  zeros_none at = record { zero = λ f a b. absurd (omega arith) }

  pub zeros_four : (at from : ℕ) → Zeros s from at → Zeros s at (at + 4) → Zeros s from (at + 4)
  zeros_four at from y z =
      record { zero = λ f a b. ⊎_elim (λ (u : f < at). y.zero f a u) (λ (u : at ≤ f). z.zero f u b) (lt_or_le f at) }

  -- bits out of the n bits of the bytes that hold them
  module _ (byte w n number : ℕ) (p : number ≡ value_at s (8 * (byte + w / 8)) n) where
    bit_same : (i : ℕ) → w % 8 + i < n → number / 2 ^ (w % 8) / 2 ^ i % 2 ≡ bit_at s (8 * byte + w + i)
    bit_same i l =
        let f : 8 * (byte + w / 8) + (w % 8 + i) ≡ 8 * byte + w + i = omega arith in
        ap (λ (x : ℕ). x % 2) (shr-shr number (w % 8) i)
        ∙ ap (λ (x : ℕ). x / 2 ^ (w % 8 + i) % 2) p
        ∙ value_bit s (8 * (byte + w / 8)) n (w % 8 + i) l
        ∙ ap (bit_at s) f

    pub whole_window : n ≡ 64 → byte + w / 8 + 8 ≤ length s → NextBits s (8 * byte + w) 32 (number / 2 ^ (w % 8))
    whole_window l h =
        record {
          few = omega arith;
          there = λ i m. omega arith;
          all = λ m. absurd (omega arith);
          same = λ i m. bit_same i (omega arith);
        }

    pub last_window : (left count : ℕ) → n ≡ 8 * left → left ≡ length s - (byte + w / 8) → byte + w / 8 < length s → count ≡ min (8 * left - w % 8) 32
        → NextBits s (8 * byte + w) count (number / 2 ^ (w % 8))
    last_window left count g q h c =
        record {
          few = omega arith;
          there = λ i m. omega arith;
          all = λ m. omega arith;
          same = λ i m. bit_same i (omega arith);
        }
