-- Laws of outcomes: one value or one refusal, never both. Assumes nothing.
use Prim.Native.Nat.{ℕ, ◌≤◌}
use mathlib.Core.Bool.{Bool, true, false}
use mathlib.Core.List.{List}
use mathlib.Core.Path.{◌≡◌, refl, ◌∙◌}
use native.Mathlib.Omega.{arith}
use Rattle.reading.specs.Outcome.{Refusal, refusal, Outcome, ok, bad, then, need}
use Rattle.reading.specs.Reader.{Reader, judged, mapped}

module _ {A : Type 0} where
  pub ok_is : {a b : A} → ◌≡◌ {A = Outcome A} (ok a) (ok b) → a ≡ b
  ok_is e = cc

  pub same_ok : (o : Outcome A) {a b : A} → o ≡ ok a → o ≡ ok b → a ≡ b
  same_ok o p q = cc

  pub same_bad : (o : Outcome A) {y z : Refusal} → o ≡ bad y → o ≡ bad z → y ≡ z
  same_bad o p q = cc

  pub not_both : (o : Outcome A) {a : A} {z : Refusal} → o ≡ ok a → o ≡ bad z → ⊥
  not_both o p q = let e : ◌≡◌ {A = ℕ} 0 1 = cc in omega arith

-- a chain that came to a value: each of its steps did
pub then_ok : {A B : Type 0} (o : Outcome A) (f : A → Outcome B) {b : B} → then o f ≡ ok b → (a : A) × (o ≡ ok a) × (f a ≡ ok b)
then_ok (ok a) f e = (a, refl, e)
then_ok (bad z) f e = let x : ◌≡◌ {A = ℕ} 0 1 = cc in absurd (omega arith)

-- a step, and then another, of which the first part is named
module _ {A B C : Type 0} (h : B → Outcome C) where
  pub then_into : (o : Outcome A) (f : A → Outcome B) (g : A → Outcome C) → ((a : A) → g a ≡ then (f a) h) → then o g ≡ then (then o f) h
  then_into (ok a) f g e = e a
  then_into (bad z) f g e = refl

pub need-ok : {A : Type 0} (t : Bool) (z : Refusal) (o : Outcome A) {a : A} → need t z o ≡ ok a → (t ≡ true) × (o ≡ ok a)
need-ok true z o e = (refl, e)
need-ok false z o e = let x : ◌≡◌ {A = ℕ} 0 1 = cc in absurd (omega arith)

-- a judged number that was accepted: it was read, and it passed
pub judged-ok : (test : ℕ → Bool) (number : ℕ) (r : Reader ℕ) (p : List ℕ) (k : ℕ) {x : ℕ × ℕ} → judged test number r p k ≡ ok x
    → (r p k ≡ ok x) × (test x.0 ≡ true)
judged-ok test number r p k {x} e = go (r p k) refl e
  where
    go : (o : Outcome (ℕ × ℕ)) → r p k ≡ o → then o (λ y. need (test y.0) (refusal number k) (ok y)) ≡ ok x → (r p k ≡ ok x) × (test x.0 ≡ true)
    go (ok y) q f =
        let n = need-ok (test y.0) (refusal number k) (ok y) f in
        let same : y ≡ x = cc in
        (q ∙ n.1, rw same at n.0)
    go (bad z) q f = let c : ◌≡◌ {A = ℕ} 0 1 = cc in absurd (omega arith)

-- a value, or a refusal whose number is not 0, so that 0 can stand for acceptance; one law for each way to build an outcome
pub data Numbered {A : Type 0} : Outcome A → Type 0 where
  value : (a : A) → Numbered (ok a)
  number : (z : Refusal) → 1 ≤ z.number → Numbered (bad z)

pub need_numbered : {A : Type 0} (t : Bool) (z : Refusal) {o : Outcome A} → 1 ≤ z.number → Numbered o → Numbered (need t z o)
need_numbered true z h n = n
need_numbered false z h n = number z h

pub then_numbered : {A B : Type 0} {o : Outcome A} {f : A → Outcome B} → Numbered o → ((a : A) → Numbered (f a)) → Numbered (then o f)
then_numbered (value a) g = g a
then_numbered (number z h) g = number z h

pub mapped_numbered : {A C : Type 0} (f : A → C) {o : Outcome (A × ℕ)} → Numbered o → Numbered (mapped f o)
unfolding mapped
mapped_numbered f (value x) = value (f x.0, x.1)
mapped_numbered f (number z h) = number z h

pub judged_numbered : (test : ℕ → Bool) (n : ℕ) (r : Reader ℕ) (p : List ℕ) (k : ℕ) → 1 ≤ n → Numbered (r p k) → Numbered (judged test n r p k)
judged_numbered test n r p k h w = then_numbered w (λ x. need_numbered (test x.0) (refusal n k) h (value x))
