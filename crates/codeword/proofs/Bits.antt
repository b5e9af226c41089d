-- Laws of the bits that a codeword is matched with. Assumes nothing.
use Prim.Native.Nat.{ℕ, zero, suc, ◌+◌, ◌*◌, ◌/◌, ◌^◌, ◌≤◌, ◌<◌}
use native.Mathlib.Nat.{pow-suc, lt_of_lt_of_le, div-one}
use native.Mathlib.Numerals.{add-one}
use native.Mathlib.Omega.{arith}
use mathlib.Core.List.{List}
use mathlib.Core.Path.{◌≡◌, refl, ap, sym, ◌∙◌}
use lib.ListN.{take}
use lib.Pow.{pow_mono, shr-shr}
use Rattle.bits.specs.Field.{bit_at}
use Rattle.bits.proofs.Values.{bit_lt}
use Rattle.bits.proofs.Cuts.{bit_cut}
use Rattle.codeword.specs.Codeword.{bits_at}

module _ (s : List ℕ) (k : ℕ) where
  pub bits_lt : (n : ℕ) → bits_at s k n < 2 ^ n
  unfolding bits_at
  bits_lt zero = omega arith
  bits_lt (suc n) = rw pow-suc (omega (arith, bits_lt n, bit_lt s (k + n)))

  -- one bit more, as the code computes it
  pub bits_more : (n w b : ℕ) → w ≡ bits_at s k n → b ≡ bit_at s (k + n) → w * 2 + b ≡ bits_at s k (n + 1)
  unfolding bits_at
  bits_more n w b p q = rw (add-one, p, q)

  pub double_fits : (n w : ℕ) → n < 32 → w ≡ bits_at s k n → w * 2 < 2 ^ 32
  double_fits n w h p = omega (arith, bits_lt n, p, pow_mono {i = n} {j = 31} (omega arith))

  pub more_fits : (n w b : ℕ) → n < 32 → w ≡ bits_at s k n → b ≡ bit_at s (k + n) → w * 2 + b < 2 ^ 32
  more_fits n w b h p q = rw (bits_more n w b p q) (lt_of_lt_of_le (bits_lt (n + 1)) (pow_mono {i = n + 1} {j = 32} (omega arith)))

  -- the last bit dropped
  pub bits_half : (n : ℕ) → bits_at s k (suc n) / 2 ≡ bits_at s k n
  unfolding bits_at
  bits_half n = let b = bit_lt s (k + n) in omega arith

  -- fewer bits are the beginning of more
  pub bits_begin : (n m : ℕ) → bits_at s k (n + m) / 2 ^ m ≡ bits_at s k n
  bits_begin n zero = let e : n + 0 ≡ n = omega arith in rw e (div-one _)
  bits_begin n (suc m) =
      let e : n + suc m ≡ suc (n + m) = omega arith in
      let f : suc m ≡ 1 + m = omega arith in
      rw e (ap (λ (x : ℕ). bits_at s k (suc (n + m)) / 2 ^ x) f ∙ sym (shr-shr (bits_at s k (suc (n + m))) 1 m) ∙ ap (λ (x : ℕ). x / 2 ^ m) (bits_half (n + m)) ∙ bits_begin n m)

-- bits of a packet cut behind byte b
pub bits_cut : (s : List ℕ) (b k n : ℕ) → k + n ≤ 8 * b → bits_at (take b s) k n ≡ bits_at s k n
unfolding bits_at
bits_cut s b k zero h = refl
bits_cut s b k (suc n) h = rw (bits_cut s b k n (omega arith), bit_cut s b (k + n) (omega arith))
