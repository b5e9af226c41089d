-- Laws of a packet's bits and of the numbers they make. Assumes nothing.
use Prim.Native.Nat.{ℕ, zero, suc, ◌+◌, ◌-◌, ◌*◌, ◌/◌, ◌%◌, ◌^◌, ◌≤◌, ◌<◌}
use native.Mathlib.Nat.{mul-le-mul_right, pow-suc, add-zero, zero-mul, add-mul, mul_assoc, mul_comm, add-suc, add_assoc, add_comm}
use native.Mathlib.Omega.{arith}
use mathlib.Core.List.{List}
use mathlib.Core.Path.{◌≡◌, ap, ◌∙◌}
use lib.Pow.{pow-add, high, low}
use Rattle.bits.specs.Field.{bit_at, value_at}

module _ (s : List ℕ) where
  pub bit_lt : (k : ℕ) → bit_at s k < 2
  unfolding bit_at
  bit_lt k = omega arith

  -- a value of w bits is below 2 ^ w
  pub value_lt : (k w : ℕ) → value_at s k w < 2 ^ w
  unfolding value_at
  value_lt k zero = omega arith
  value_lt k (suc w) = rw pow-suc (omega (arith, value_lt k w, mul-le-mul_right (2 ^ w) (le1 (k + w))))
    where
      le1 : (j : ℕ) → bit_at s j ≤ 1
      le1 j = omega (arith, bit_lt j)

  -- m + n bits are m bits and then n bits
  pub value_add : (k m n : ℕ) → value_at s k (m + n) ≡ value_at s k m + value_at s (k + m) n * 2 ^ m
  unfolding value_at
  value_add k m zero = simp (add-zero, zero-mul)
  value_add k m (suc n) = simp (add-suc, value_add k m n, pow-add, add-mul, add_assoc, mul_assoc, mul_comm (2 ^ n) (2 ^ m))

  -- n bits out of more
  pub value_window : (k m n r : ℕ) → value_at s k (m + (n + r)) / 2 ^ m % 2 ^ n ≡ value_at s (k + m) n
  value_window k m n r =
      rw (value_add k m (n + r), value_add (k + m) n r, add_comm, high _ m (value_lt k m), add_comm, low _ n (value_lt (k + m) n))

  -- one bit
  pub value_one : (k : ℕ) → value_at s k 1 ≡ bit_at s k
  unfolding value_at
  value_one k = let e : k + 0 ≡ k = omega arith in rw e (omega arith)

  -- the bits of a value, one by one: bit i of it is bit k + i of the packet
  pub value_bit : (k w i : ℕ) → i < w → value_at s k w / 2 ^ i % 2 ≡ bit_at s (k + i)
  value_bit k w i h =
      let e : w ≡ i + (1 + (w - (i + 1))) = omega arith in
      ap (λ (x : ℕ). value_at s k x / 2 ^ i % 2) e ∙ value_window k i 1 (w - (i + 1)) ∙ value_one (k + i)
