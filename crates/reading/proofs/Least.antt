-- Laws of `lowest`, the least number that passes a test, and of `every`.
-- `lowest_is` and `lowest-none` give the value from what is known; `lowest_ok` gives what is known from the value. Assumes nothing.
use mathlib.Core.Bool.{Bool, true, false, ◌&&◌}
use mathlib.Core.Option.{Option, none, some}
use mathlib.Core.Path.{◌≡◌, refl}
use mathlib.Core.Logic.{◌⊎◌, inl, inr, ⊎_elim}
use Prim.Native.Nat.{ℕ, zero, suc, ◌≤◌, ◌<◌}
use native.Mathlib.Nat.{eq-or-lt_of_le}
use native.Mathlib.Decide.{dec_lt}
use native.Mathlib.Omega.{arith}
use Rattle.reading.specs.Least.{every, lowest, or_else, Least}

-- a test is one or the other
pub no_true : (t : Bool) → (t ≡ true → ⊥) → t ≡ false
no_true true h = absurd (h refl)
no_true false h = refl

pub true_not_false : (t : Bool) → t ≡ true → t ≡ false → ⊥
true_not_false t p q = let z : ◌≡◌ {A = ℕ} 0 1 = cc in omega arith

pub true_or_false : (t : Bool) → (t ≡ true) ⊎ (t ≡ false)
true_or_false true = inl refl
true_or_false false = inr refl

pub and_split : (a b : Bool) → (a && b) ≡ true → (a ≡ true) × (b ≡ true)
and_split true true e = (refl, refl)
and_split true false e = (refl, e)
and_split false b e = (e, let z : false ≡ true = e in cc)

pub lt_or_le : (s y : ℕ) → (s < y) ⊎ (y ≤ s)
lt_or_le s y = go (dec_lt s y)
  where
    go : Dec (s < y) → (s < y) ⊎ (y ≤ s)
    go (yes p) = inl p
    go (no n) = inr (omega arith)

pub below_suc : {s n : ℕ} → s < suc n → (s < n) ⊎ (s ≡ n)
below_suc {s} {n} h = go (eq-or-lt_of_le h)
  where
    go : (suc s ≡ suc n) ⊎ (suc s < suc n) → (s < n) ⊎ (s ≡ n)
    go (inl e) = inr (omega arith)
    go (inr l) = inl (omega arith)

module _ (f : ℕ → Bool) where
  pub every_at : (n : ℕ) → every f n ≡ true → (i : ℕ) → i < n → f i ≡ true
  unfolding every
  every_at zero e i h = absurd (omega arith)
  every_at (suc n) e i h =
      let p = and_split (every f n) (f n) e in
      ⊎_elim (λ l. every_at n p.0 i l) (λ q. rw q p.1) (below_suc h)

  pub every_all : (n : ℕ) → ((i : ℕ) → i < n → f i ≡ true) → every f n ≡ true
  unfolding every
  every_all zero h = refl
  every_all (suc n) h = rw (every_all n (λ i l. h i (omega arith)), h n (omega arith))

  -- where none passes, there is no least
  pub lowest-none : (n : ℕ) → ((u : ℕ) → u < n → f u ≡ false) → lowest f n ≡ none
  unfolding lowest
  lowest-none zero q = refl
  lowest-none (suc n) q = rw (lowest-none n (λ u l. q u (omega arith)), q n (omega arith))

  -- the least that passes: it passes, it is below n, and none below it passes
  pub lowest_is : (n v : ℕ) → v < n → f v ≡ true → ((u : ℕ) → u < v → f u ≡ false) → lowest f n ≡ some v
  unfolding lowest
  lowest_is zero v h p q = absurd (omega arith)
  lowest_is (suc n) v h p q =
      ⊎_elim
      (λ l. rw (lowest_is n v l p q))
      (λ e. rw (lowest-none n (λ u l. q u (rw e l)), rw e at p, ← e))
      (below_suc h)

-- what an answer of `lowest` says
abbrev pub IsLowest : (ℕ → Bool) → ℕ → Option ℕ → Type 0
IsLowest f n (some v) = Least f n v
IsLowest f n none = (u : ℕ) → u < n → f u ≡ false

lowest_step : (f : ℕ → Bool) (n : ℕ) (o : Option ℕ) (t : Bool) → f n ≡ t → IsLowest f n o → IsLowest f (suc n) (or_else o t n)
lowest_step f n (some v) t e p =
    let b = p.below in
    record { below = omega arith; passes = p.passes; first = p.first }
lowest_step f n none true e p = record { below = omega arith; passes = e; first = p }
lowest_step f n none false e p = λ u h. ⊎_elim (λ (l : u < n). p u l) (λ (q : u ≡ n). rw q e) (below_suc h)

pub lowest_ok : (f : ℕ → Bool) (n : ℕ) → IsLowest f n (lowest f n)
unfolding lowest
lowest_ok f zero = λ u h. absurd (omega arith)
lowest_ok f (suc n) = lowest_step f n (lowest f n) (f n) refl (lowest_ok f n)

-- the same, where the answer is known
pub lowest-some : (f : ℕ → Bool) (n v : ℕ) → lowest f n ≡ some v → Least f n v
lowest-some f n v e = rw e at (lowest_ok f n)

pub lowest_fails : (f : ℕ → Bool) (n : ℕ) → lowest f n ≡ none → (u : ℕ) → u < n → f u ≡ false
lowest_fails f n e = rw e at (lowest_ok f n)

-- tests that agree below n have the same least
pub lowest_same : (f g : ℕ → Bool) (n : ℕ) → ((u : ℕ) → u < n → f u ≡ g u) → lowest f n ≡ lowest g n
unfolding lowest
lowest_same f g zero h = refl
lowest_same f g (suc n) h = rw (lowest_same f g n (λ u l. h u (omega arith)), h n (omega arith))
