-- Laws of `many` and `into`, as a loop of n turns asks them: i turns are done, and n - i are to come. Assumes nothing.
use mathlib.Core.Path.{◌≡◌, refl, ap}
use mathlib.Core.List.{List, [], ◌∷◌}
use Prim.Native.Nat.{ℕ, zero, suc, ◌+◌, ◌-◌, ◌≤◌, ◌<◌}
use native.Mathlib.Omega.{arith}
use native.Mathlib.Numerals.{add-one}
use lib.ListN.{length, get_or, drop, drop_of_length-le}
use lib.Seq.{drop-cons}
use Rattle.reading.specs.Outcome.{Refusal, Outcome, ok, bad, then}
use Rattle.reading.specs.Reader.{Reader, many, each, mapped, puts, into}

module _ {A T : Type 0} where
  into_cons : (w : A → T → T) (a : A) (o : Outcome (List A × ℕ)) (t : T)
      → into w (then o (λ y. ok (a ∷ y.0, y.1))) t ≡ into w o (w a t)
  unfolding into mapped puts
  into_cons w a (ok y) t = refl
  into_cons w a (bad z) t = refl

  module _ (w : A → T → T) (r : Reader A) (n i : ℕ) (p : List ℕ) (k : ℕ) (t : T) where
    -- no turn is left
    pub many_done : n ≤ i → into w (many r (n - i) p k) t ≡ ok (t, k)
    unfolding many into mapped puts
    many_done h = let e : n - i ≡ 0 = omega arith in rw e

    turn : i < n → many r (n - i) p k ≡ then (r p k) (λ x. then (many r (n - (i + 1)) p x.1) (λ y. ok (x.0 ∷ y.0, y.1)))
    unfolding many
    turn h = let e : n - i ≡ suc (n - (i + 1)) = omega arith in rw e

    -- a turn that is refused refuses the whole
    pub many-bad : i < n → (z : Refusal) → r p k ≡ bad z → into w (many r (n - i) p k) t ≡ bad z
    unfolding into mapped
    many-bad h z b = rw (turn h, b)

    -- a turn that reads x leaves one turn less, with x written
    pub many_next : i < n → (x : A × ℕ) → r p k ≡ ok x → into w (many r (n - i) p k) t ≡ into w (many r (n - (i + 1)) p x.1) (w x.0 t)
    many_next h x b = rw (turn h, b) (into_cons w x.0 (many r (n - (i + 1)) p x.1) t)

-- the same for a loop over a list, of which i items are done
module _ {A B T : Type 0} (d : B) where
  module _ (w : A → T → T) (r : B → Reader A) (l : List B) (i : ℕ) (p : List ℕ) (k : ℕ) (t : T) where
    pub each_done : length l ≤ i → into w (each r (drop i l) p k) t ≡ ok (t, k)
    unfolding each into mapped puts
    each_done h = rw (drop_of_length-le l h)

    each_turn : i < length l → each r (drop i l) p k ≡ then (r (get_or l i d) p k) (λ x. then (each r (drop (i + 1) l) p x.1) (λ y. ok (x.0 ∷ y.0, y.1)))
    unfolding each
    each_turn h = rw (drop-cons l i d h, add-one)

    pub each-bad : i < length l → (z : Refusal) → r (get_or l i d) p k ≡ bad z → into w (each r (drop i l) p k) t ≡ bad z
    unfolding into mapped
    each-bad h z b = rw (each_turn h, b)

    pub each_next : i < length l → (x : A × ℕ) → r (get_or l i d) p k ≡ ok x → into w (each r (drop i l) p k) t ≡ into w (each r (drop (i + 1) l) p x.1) (w x.0 t)
    each_next h x b = rw (each_turn h, b) (into_cons w x.0 (each r (drop (i + 1) l) p x.1) t)

-- `many` reads as many as it is asked to
module _ {A : Type 0} where
  abbrev pub Long : ℕ → Outcome (List A × ℕ) → Type 0
  Long n (ok x) = length x.0 ≡ n
  Long n (bad z) = Unit {0}

  long_cons : (n : ℕ) (a : A) (o : Outcome (List A × ℕ)) → Long n o → Long (suc n) (then o (λ y. ok (a ∷ y.0, y.1)))
  long_cons n a (ok y) h = ap suc h
  long_cons n a (bad z) h = tt

  long_then : (n : ℕ) (o : Outcome (A × ℕ)) (f : ℕ → Outcome (List A × ℕ)) → ((k : ℕ) → Long n (f k))
      → Long (suc n) (then o (λ x. then (f x.1) (λ y. ok (x.0 ∷ y.0, y.1))))
  long_then n (ok x) f h = long_cons n x.0 (f x.1) (h x.1)
  long_then n (bad z) f h = tt

  pub many_long : (r : Reader A) (n : ℕ) (p : List ℕ) (k : ℕ) → Long n (many r n p k)
  unfolding many
  many_long r zero p k = refl
  many_long r (suc n) p k = long_then n (r p k) (λ j. many r n p j) (λ j. many_long r n p j)

-- what is known of a reading whose value went through f
module _ {A B : Type 0} (f : A → B) where
  pub mapped_bad : (o : Outcome (A × ℕ)) {z : Refusal} → mapped f o ≡ bad z → o ≡ bad z
  unfolding mapped
  mapped_bad (ok x) e = let n : ◌≡◌ {A = ℕ} 0 1 = cc in absurd (omega arith)
  mapped_bad (bad y) e = cc

  pub mapped_ok : (o : Outcome (A × ℕ)) {b : B} {k : ℕ} → mapped f o ≡ ok (b, k) → (a : A) × (o ≡ ok (a, k)) × (f a ≡ b)
  unfolding mapped
  mapped_ok (ok x) {b} {k} e =
      let p : ◌≡◌ {A = B × ℕ} (f x.0, x.1) (b, k) = cc in
      let q : x.1 ≡ k = ap (λ (y : B × ℕ). y.1) p in
      (x.0, (λ j. ok (x.0, q j)), ap (λ (y : B × ℕ). y.0) p)
  mapped_ok (bad y) e = let n : ◌≡◌ {A = ℕ} 0 1 = cc in absurd (omega arith)

-- `each` reads one for each item of the list
module _ {A B : Type 0} where
  pub each_long : (r : B → Reader A) (l : List B) (p : List ℕ) (k : ℕ) → Long (length l) (each r l p k)
  unfolding each
  each_long r [] p k = refl
  each_long r (b ∷ l) p k = long_then (length l) (r b p k) (λ j. each r l p j) (λ j. each_long r l p j)
