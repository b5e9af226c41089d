-- Laws of ilog: how large a number of so many bits is. Assumes nothing.
use Prim.Native.Nat.{ℕ, zero, suc, ◌+◌, ◌-◌, ◌*◌, ◌/◌, ◌%◌, ◌^◌, ◌≤◌, ◌<◌}
use native.Mathlib.Nat.{pow-suc, div-eq_of_lt, div-eq_of_lt-le, mul_comm, one-mul}
use native.Mathlib.Omega.{arith}
use mathlib.Core.Path.{◌≡◌, refl}
use mathlib.Core.Bool.{Bool, true, false, cond}
use lib.Count.{count_leading_zeros, leading_unique}
use lib.Dec.{ltb, eqb}
use borrow.Author.Tests.{ltb-true, ltb-false}
use Rattle.bits.specs.Ilog.{highest_set, ilog}

-- h is how many bits v has
pub record Places (v h : ℕ) : Type 0 where
  pub above : v < 2 ^ h
  pub least : 2 ^ h ≤ 2 * v + 1

-- bit n of a number of n + 1 bits tells on which side of 2 ^ n it lies
low_side : (n v : ℕ) → v < 2 ^ n → eqb (v / 2 ^ n % 2) 1 ≡ false
low_side n v h = let e : v / 2 ^ n ≡ 0 = div-eq_of_lt h in rw e

high_side : (n v : ℕ) → 2 ^ n ≤ v → v < 2 ^ suc n → eqb (v / 2 ^ n % 2) 1 ≡ true
high_side n v h l =
    let u : v < (1 + 1) * 2 ^ n = rw (pow-suc, mul_comm) at l in
    let e : v / 2 ^ n ≡ 1 = div-eq_of_lt-le (2 ^ n) (rw one-mul h) u in
    rw e

pub highest : (n v : ℕ) → v < 2 ^ n → Places v (highest_set n v) × (highest_set n v ≤ n)
unfolding highest_set
highest zero v h = (record { above = h; least = omega arith }, omega arith)
highest (suc n) v h = go (λ l. highest n v l) (ltb v (2 ^ n)) refl
  where
    go : (v < 2 ^ n → Places v (highest_set n v) × (highest_set n v ≤ n)) → (b : Bool) → ltb v (2 ^ n) ≡ b
        → Places v (cond (eqb (v / 2 ^ n % 2) 1) (suc n) (highest_set n v)) × (cond (eqb (v / 2 ^ n % 2) 1) (suc n) (highest_set n v) ≤ suc n)
    go ih true p =
        let l : v < 2 ^ n = ltb-true _ _ p in
        let i = ih l in
        rw (low_side n v l) (i.0, omega arith)
    go ih false p =
        let l : 2 ^ n ≤ v = ltb-false _ _ p in
        rw (high_side n v l h) (record { above = h; least = rw pow-suc (omega arith) }, omega arith)

pub ilog_places : (v : ℕ) → v < 2 ^ 32 → Places v (ilog v) × (ilog v ≤ 32)
unfolding ilog
ilog_places v h = highest 32 v h

-- as the code computes it
pub ilog_zeros : (v : ℕ) → v < 2 ^ 32 → 32 - count_leading_zeros 32 v ≡ ilog v
ilog_zeros v h =
    let i = ilog_places v h in
    let e = leading_unique 32 v (32 - ilog v) (ilog v) (omega arith) i.0.above i.0.least in
    omega arith
