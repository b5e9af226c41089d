-- Laws of counting the numbers below a bound that pass a test. Assumes nothing.
use mathlib.Core.Bool.{Bool, true, false}
use mathlib.Core.Path.{◌≡◌, refl, ap}
use mathlib.Core.Logic.{⊎_elim}
use Prim.Native.Nat.{ℕ, zero, suc, ◌+◌, ◌≤◌, ◌<◌}
use native.Mathlib.Nat.{add-zero, add-suc, add_comm, le_dest}
use native.Mathlib.Omega.{arith}
use Rattle.reading.specs.Least.{count, one}
use Rattle.reading.proofs.Least.{no_true, lt_or_le}

-- every number from x up to y fails
abbrev pub Gap : (ℕ → Bool) → ℕ → ℕ → Type 0
Gap f x y = (s : ℕ) → x ≤ s → s < y → f s ≡ false

-- every number from x up to y passes
abbrev pub Full : (ℕ → Bool) → ℕ → ℕ → Type 0
Full f x y = (s : ℕ) → x ≤ s → s < y → f s ≡ true

pub gap_cat : (f : ℕ → Bool) {x y z : ℕ} → Gap f x y → Gap f y z → Gap f x z
gap_cat f {x} {y} {z} g k s a b = ⊎_elim (λ (l : s < y). g s a l) (λ (l : y ≤ s). k s l b) (lt_or_le s y)

pub no_gap : (f : ℕ → Bool) {x : ℕ} → Gap f x x
no_gap f s a b = absurd (omega arith)

one-false : (t : Bool) → t ≡ false → one t ≡ 0
one-false t e = rw e

one-true : (t : Bool) → t ≡ true → one t ≡ 1
one-true t e = rw e

pub count_zero : (f : ℕ → Bool) → count f 0 ≡ 0
unfolding count
count_zero f = refl

module _ (f : ℕ → Bool) where
  gap_add : (x n : ℕ) → Gap f x (x + n) → count f (x + n) ≡ count f x
  gap_add x zero g = ap (count f) (add-zero x)
  gap_add x (suc n) g =
      let e : count f (suc (x + n)) ≡ count f (x + n) + one (f (x + n)) = unfold count in refl in
      let z : one (f (x + n)) ≡ 0 = one-false (f (x + n)) (g (x + n) (omega arith) (omega arith)) in
      let ih = gap_add x n (λ s a b. g s a (omega arith)) in
      rw add-suc (omega arith)

  full_add : (x n : ℕ) → Full f x (x + n) → count f (x + n) ≡ count f x + n
  full_add x zero g = rw (add-zero, add-zero)
  full_add x (suc n) g =
      let e : count f (suc (x + n)) ≡ count f (x + n) + one (f (x + n)) = unfold count in refl in
      let z : one (f (x + n)) ≡ 1 = one-true (f (x + n)) (g (x + n) (omega arith) (omega arith)) in
      let ih = full_add x n (λ s a b. g s a (omega arith)) in
      rw add-suc (omega arith)

  mono_add : (x n : ℕ) → count f x ≤ count f (x + n)
  mono_add x zero = rw add-zero (omega arith)
  mono_add x (suc n) =
      let e : count f (suc (x + n)) ≡ count f (x + n) + one (f (x + n)) = unfold count in refl in
      let ih = mono_add x n in
      rw add-suc (omega arith)

  pub count_gap : {x y : ℕ} → x ≤ y → Gap f x y → count f y ≡ count f x
  count_gap {x} {y} h g =
      let d = le_dest h in
      rw (← d.1) (gap_add x d.0 (rw d.1 g))

  pub count_full : {x y : ℕ} → x ≤ y → Full f x y → count f y + x ≡ count f x + y
  count_full {x} {y} h g =
      let d = le_dest h in
      let k = full_add x d.0 (rw d.1 g) in
      let m = rw d.1 at k in
      let p = d.1 in
      omega (arith, m, p)

  pub count_mono : {x y : ℕ} → x ≤ y → count f x ≤ count f y
  count_mono {x} {y} h =
      let d = le_dest h in
      rw (← d.1) (mono_add x d.0)

module _ (f f' : ℕ → Bool) where
  agree_add : (x n : ℕ) → ((s : ℕ) → x ≤ s → s < x + n → f' s ≡ f s) → count f' (x + n) + count f x ≡ count f (x + n) + count f' x
  agree_add x zero h = rw (add-zero, add_comm)
  agree_add x (suc n) h =
      let e : count f (suc (x + n)) ≡ count f (x + n) + one (f (x + n)) = unfold count in refl in
      let e' : count f' (suc (x + n)) ≡ count f' (x + n) + one (f' (x + n)) = unfold count in refl in
      let z : one (f' (x + n)) ≡ one (f (x + n)) = ap one (h (x + n) (omega arith) (omega arith)) in
      let ih = agree_add x n (λ s a b. h s a (omega arith)) in
      rw add-suc (omega arith)

  pub count_agree : {x y : ℕ} → x ≤ y → ((s : ℕ) → x ≤ s → s < y → f' s ≡ f s) → count f' y + count f x ≡ count f y + count f' x
  count_agree {x} {y} h g =
      let d = le_dest h in
      rw (← d.1) (agree_add x d.0 (rw d.1 g))

-- where the count is 0, every test fails
pub count_none : (f : ℕ → Bool) {n : ℕ} → count f n ≡ 0 → (s : ℕ) → s < n → f s ≡ false
count_none f {n} e s h =
    no_true (f s)
    (λ t.
    let c : count f (suc s) ≡ count f s + one (f s) = unfold count in refl in
    let z : one (f s) ≡ 1 = one-true (f s) t in
    let m = count_mono f h in
    omega arith)
