-- What is known of everything that a reader accepts holds of each item of a list that it reads. Assumes nothing.
use Prim.Native.Nat.{ℕ, zero, suc}
use mathlib.Core.Bool.{Bool, true}
use mathlib.Core.List.{List, [], ◌∷◌}
use mathlib.Core.Path.{◌≡◌, refl, subst}
use lib.ListN.{length}
use Rattle.reading.specs.Outcome.{ok, then}
use Rattle.reading.specs.Reader.{Reader, many}
use Rattle.reading.specs.Lists.{all}
use Rattle.reading.specs.Encoding.{Each}
use Rattle.reading.proofs.Outcomes.{ok_is, then_ok}
use Rattle.reading.proofs.Readers.{Long, many_long}

module _ {A : Type 0} (r : Reader A) (p : List ℕ) where
  -- as many items as were asked for
  pub many_number : (n k : ℕ) {x : List A × ℕ} → many r n p k ≡ ok x → length x.0 ≡ n
  many_number n k {x} e = subst (Long n) e (many_long r n p k)

  module _ (Valid : A → Type 0) (accepted : (k : ℕ) (x : A × ℕ) → r p k ≡ ok x → Valid x.0) where
    pub many_each : (n k : ℕ) {x : List A × ℕ} → many r n p k ≡ ok x → Each Valid x.0
    unfolding many Each
    many_each zero k {x} e = let f : ([], k) ≡ x = cc in subst (λ (y : List A × ℕ). Each Valid y.0) f tt
    many_each (suc n) k {x} e =
        let a = then_ok (r p k) (λ x. then (many r n p x.1) (λ y. ok (x.0 ∷ y.0, y.1))) e in
        let b = then_ok (many r n p a.0.1) (λ y. ok (a.0.0 ∷ y.0, y.1)) a.2 in
        let f : (a.0.0 ∷ b.0.0, b.0.1) ≡ x = cc in
        subst (λ (y : List A × ℕ). Each Valid y.0) f (accepted k a.0 a.1, many_each n a.0.1 b.1)

-- one item more
pub many_cons : {A : Type 0} (r : Reader A) (n : ℕ) (s : List ℕ) (k : ℕ) {x : List A × ℕ} → many r (suc n) s k ≡ ok x
    → (a : A × ℕ) × (l : List A × ℕ) × (r s k ≡ ok a) × (many r n s a.1 ≡ ok l) × (◌≡◌ {A = List A × ℕ} (a.0 ∷ l.0, l.1) x)
unfolding many
many_cons r n s k e =
    let a = then_ok (r s k) _ e in
    let l = then_ok (many r n s a.0.1) _ a.2 in
    (a.0, l.0, a.1, l.1, ok_is l.2)

-- numbers that each pass a test
pub many-all : (f : ℕ → Bool) (r : Reader ℕ) (s : List ℕ) → ((k : ℕ) (x : ℕ × ℕ) → r s k ≡ ok x → f x.0 ≡ true)
    → (n k : ℕ) {x : List ℕ × ℕ} → many r n s k ≡ ok x → all f x.0 ≡ true
unfolding all many
many-all f r s h zero k {x} e = subst (λ (y : List ℕ × ℕ). all f y.0 ≡ true) (ok_is e) refl
many-all f r s h (suc n) k {x} e =
    let c = many_cons r n s k e in
    let here = h k c.0 c.2 in
    let later = many-all f r s h n c.0.1 c.3 in
    subst (λ (y : List ℕ × ℕ). all f y.0 ≡ true) c.4 (rw (here, later))
