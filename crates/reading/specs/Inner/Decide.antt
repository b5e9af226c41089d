-- Claims that a test decides: the test, with the proof that it is true exactly where the claim holds. What a test of such a kind says can be read off
-- its type, so its body need not be read.
use Rattle.std.specs.Prelude.{ℕ, suc, ◌≤◌, ◌<◌, Bool, true, false, not, ◌&&◌, ◌||◌, List, [], ◌∷◌, ◌↔◌, ◌≡◌, refl, leb, ltb, eqb, length}
use Rattle.std.proofs.Common.{le-leb, lt-ltb, eq-eqb, leb-true, ltb-true, eqb-true, ap, arith}
use Rattle.reading.specs.Encoding.{Each}

pub record Decided (P : Type 0) : Type 0 where
  pub test : Bool
  pub tells : (test ≡ true) ↔ P

contradiction : {P : Type 0} → false ≡ true → P
contradiction e = let z : ◌≡◌ {A = ℕ} 0 1 = cc in absurd (omega arith)

-- a test that is true
pub holds : (b : Bool) → Decided (b ≡ true)
holds b = record { test = b; tells = ((λ e. e), (λ e. e)) }

pub at_most : (a b : ℕ) → Decided (a ≤ b)
at_most a b = record { test = leb a b; tells = (leb-true a b, le-leb a b) }

pub below : (a b : ℕ) → Decided (a < b)
below a b = record { test = ltb a b; tells = (ltb-true a b, lt-ltb a b) }

pub equal : (a b : ℕ) → Decided (a ≡ b)
equal a b = record { test = eqb a b; tells = (eqb-true a b, eq-eqb a b) }

module _ {P Q : Type 0} where
  -- an equivalent claim is decided by the same test
  pub equivalent : (P → Q) → (Q → P) → Decided P → Decided Q
  equivalent f g d = record { test = d.test; tells = ((λ e. f (d.tells.0 e)), (λ q. d.tells.1 (g q))) }

  pub both_tell : (p q : Bool) → (p ≡ true) ↔ P → (q ≡ true) ↔ Q → (p && q ≡ true) ↔ (P × Q)
  both_tell true q f g = ((λ e. (f.0 refl, g.0 e)), (λ x. g.1 x.1))
  both_tell false q f g = ((λ e. contradiction e), (λ x. f.1 x.0))

  pub both : Decided P → Decided Q → Decided (P × Q)
  both d e = record { test = d.test && e.test; tells = both_tell d.test e.test d.tells e.tells }

  implies_tell : (p q : Bool) → (p ≡ true) ↔ P → (q ≡ true) ↔ Q → (not p || q ≡ true) ↔ (P → Q)
  implies_tell true q f g = ((λ e x. g.0 e), (λ h. g.1 (h (f.0 refl))))
  implies_tell false q f g = ((λ e x. contradiction (f.1 x)), (λ h. refl))

  -- Q where P holds
  pub implies : Decided P → Decided Q → Decided (P → Q)
  implies d e = record { test = not d.test || e.test; tells = implies_tell d.test e.test d.tells e.tells }

pub negated : {P : Type 0} → Decided P → Decided (P → ⊥)
negated {P} d = record { test = not d.test; tells = go d.test d.tells }
  where
    go : (p : Bool) → (p ≡ true) ↔ P → (not p ≡ true) ↔ (P → ⊥)
    go true f = ((λ e. contradiction e), (λ h. absurd (h (f.0 refl))))
    go false f = ((λ e x. contradiction (f.1 x)), (λ h. refl))

-- a claim of each item of a list
pub each : {A : Type 0} {P : A → Type 0} → ((a : A) → Decided (P a)) → (l : List A) → Decided (Each P l)
unfolding Each
each d [] = record { test = true; tells = ((λ e. tt), (λ x. refl)) }
each d (a ∷ l) = both (d a) (each d l)

-- two lists of numbers are the same
pub same_list : (l m : List ℕ) → Decided (l ≡ m)
same_list [] [] = record { test = true; tells = ((λ e. refl), (λ e. refl)) }
same_list [] (y ∷ m) = record { test = false; tells = ((λ e. contradiction e), (λ e. let z : ◌≡◌ {A = ℕ} 0 (suc (length m)) = ap length e in absurd (omega arith))) }
same_list (x ∷ l) [] = record { test = false; tells = ((λ e. contradiction e), (λ e. let z : ◌≡◌ {A = ℕ} (suc (length l)) 0 = ap length e in absurd (omega arith))) }
same_list (x ∷ l) (y ∷ m) = equivalent (λ p. λ j. p.0 j ∷ p.1 j) (λ e. (cc, cc)) (both (equal x y) (same_list l m))
