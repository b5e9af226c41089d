-- Powers against a bound: what the powers passed say of the last one. Assumes nothing.
use Prim.Native.Nat.{ℕ, zero, suc, ◌+◌, ◌*◌, ◌^◌, ◌≤◌, ◌<◌}
use native.Mathlib.Nat.{pow-suc, pow-succ', pow-le-pow_right, zero-mul}
use native.Mathlib.Numerals.{add-one}
use native.Mathlib.Omega.{arith}
use borrow.Author.Rules.{rules}
use borrow.Author.Tests.{lt-leb}
use mathlib.Core.Bool.{false}
use mathlib.Core.Path.{◌≡◌, refl, sym, ap, ◌∙◌}
use lib.Dec.{leb}
use Rattle.reading.proofs.Basics.{product_fits, one_power}

-- a base of 0 or 1 is its own power
same_power : (base exponent : ℕ) → (exponent ≡ 0 → ⊥) → base < 2 → base ≡ base ^ exponent
same_power zero zero n h = absurd (n refl)
same_power zero (suc e) n h = sym (pow-succ' 0 e ∙ zero-mul (0 ^ e))
same_power (suc zero) e n h = sym (one_power e)
same_power (suc (suc b)) e n h = absurd (omega arith)

pub same_within : (base exponent bound : ℕ) → (exponent ≡ 0 → ⊥) → base < 2 → leb base bound ≡ leb (base ^ exponent) bound
same_within base exponent bound n h = ap (λ (p : ℕ). leb p bound) (same_power base exponent n h)

-- the loop: done factors are taken, and their product is there
pub record Growing (base exponent power done : ℕ) : Type 0 where
  pub within : done ≤ exponent
  pub product : power ≡ base ^ done

module _ (base exponent power done : ℕ) (w : Growing base exponent power done) where
  pub growing_turn : (power' : ℕ) → done < exponent → power' ≡ power * base → Growing base exponent power' (done + 1)
  growing_turn power' h e = record { within = omega arith; product = rw (add-one, pow-suc, ← w.product) e }

  pub grown_past : (bound : ℕ) → 2 ≤ base → bound < power → false ≡ leb (base ^ exponent) bound
  grown_past bound h l =
      let m : base ^ done ≤ base ^ exponent = pow-le-pow_right {n = base} (omega arith) {i = done} {j = exponent} w.within in
      let e = w.product in
      sym (lt-leb (base ^ exponent) bound (omega arith))

pub ruleset powers = (rules, same_within, growing_turn, grown_past, product_fits)
