-- Laws of `greatest`, the greatest number whose power stays within a bound, and of halving the numbers where it lies. Assumes nothing.
use Prim.Native.Nat.{ℕ, zero, suc, ◌-◌, ◌/◌, ◌^◌, ◌≤◌, ◌<◌}
use native.Mathlib.Nat.{pow-le-pow_left}
use native.Mathlib.Omega.{arith}
use borrow.Author.Rules.{rules}
use borrow.Author.Tests.{lt-leb, leb-false}
use mathlib.Core.Bool.{Bool, true, false, cond}
use mathlib.Core.Logic.{⊎_elim}
use mathlib.Core.Path.{◌≡◌, refl, sym, ap, ◌∙◌}
use lib.Dec.{leb}
use Rattle.reading.proofs.Least.{lt_or_le}
use Rattle.book.specs.LookupReading.{greatest, lookup1_values}

module _ (d e : ℕ) where
  -- a number whose power is within is the greatest up to itself
  pub greatest_top : (n : ℕ) → leb (n ^ d) e ≡ true → greatest d e n ≡ n
  unfolding greatest
  greatest_top zero t = refl
  greatest_top (suc n) t = rw t

  -- from a number on whose power is above, none is within
  pub greatest_below : (m n : ℕ) → 0 < m → m ≤ n → leb (m ^ d) e ≡ false → greatest d e n ≡ greatest d e (m - 1)
  unfolding greatest
  greatest_below m zero h g t = absurd (omega arith)
  greatest_below m (suc n) h g t =
      let p : m ^ d ≤ suc n ^ d = pow-le-pow_left g d in
      let q : e < m ^ d = leb-false _ _ t in
      let f : leb (suc n ^ d) e ≡ false = lt-leb (suc n ^ d) e (omega arith) in
      rw f
      (⊎_elim
      (λ (l : n < m). let q : n ≡ m - 1 = omega arith in ap (greatest d e) q)
      (λ (l : m ≤ n). greatest_below m n h l t)
      (lt_or_le n m))

  pub greatest_le : (n : ℕ) → greatest d e n ≤ n
  unfolding greatest
  greatest_le zero = omega arith
  greatest_le (suc n) = go (leb (suc n ^ d) e) (greatest_le n)
    where
      go : (b : Bool) → greatest d e n ≤ n → cond b (suc n) (greatest d e n) ≤ suc n
      go true h = omega arith
      go false h = omega arith

-- the answer lies from low to high
pub record Halving (entries dimensions low high : ℕ) : Type 0 where
  pub ordered : low ≤ high
  pub within : high ≤ entries
  pub reached : greatest dimensions entries low ≡ low
  pub same : greatest dimensions entries high ≡ lookup1_values entries dimensions

module _ (entries dimensions : ℕ) where
  pub halving_start : Halving entries dimensions 0 entries
  unfolding greatest lookup1_values
  halving_start = record { ordered = omega arith; within = omega arith; reached = refl; same = refl }

  module _ (low high : ℕ) (w : Halving entries dimensions low high) where
    pub halving_up : {t : Bool} → low < high → t ≡ leb ((high - (high - low) / 2) ^ dimensions) entries → t ≡ true
        → Halving entries dimensions (high - (high - low) / 2) high
    halving_up l e t =
        let o = w.within in
        record { ordered = omega arith; within = w.within; reached = greatest_top dimensions entries _ (sym e ∙ t); same = w.same }

    pub halving_down : {t : Bool} → low < high → t ≡ leb ((high - (high - low) / 2) ^ dimensions) entries → t ≡ false
        → Halving entries dimensions low (high - (high - low) / 2 - 1)
    halving_down l e t =
        let o = w.within in
        record {
          ordered = omega arith;
          within = omega arith;
          reached = w.reached;
          same = sym (greatest_below dimensions entries (high - (high - low) / 2) high (omega arith) (omega arith) (sym e ∙ t)) ∙ w.same;
        }

    pub halving_end : high ≤ low → low ≡ lookup1_values entries dimensions
    halving_end h =
        let o = w.ordered in
        let e : low ≡ high = omega arith in
        sym w.reached ∙ ap (greatest dimensions entries) e ∙ w.same

pub ruleset halving = (rules, halving_start, halving_up, halving_down, halving_end)
