-- RULES 7 AND 8 AND THE VERDICT: a book's lengths meet both exactly when the verdict accepts them, and each answer of the verdict says which they break.
-- By cases on the first refused entry and on what is left. Assumes nothing.
use Rattle.std.specs.Prelude.{Err}
use Prim.Native.Nat.{ℕ}
use native.Mathlib.Omega.{arith}
use mathlib.Core.Bool.{Bool, true, false, cond}
use mathlib.Core.List.{List}
use mathlib.Core.Option.{Option, none, some}
use mathlib.Core.Path.{◌≡◌, refl}
use Rattle.codeword_assignment.specs.Book.{Assigned, Accepted, used, first_refused, free_after, is_lone, refused_or, verdict}
use Rattle.codeword_assignment.specs.declared.book.Unassigned.TheVariants.{Overspecified, Underspecified, TooShort}
use Rattle.rules.specs.Rules.{meets7, meets8}

abbrev judge : Option ℕ → Bool → Assigned
judge refused full = refused_or refused (cond full Accepted (Err Underspecified))

accepted_both : (f : Option ℕ) (b : Bool) → judge f b ≡ Accepted → (meets7 f ≡ true) × (b ≡ true)
accepted_both none true e = (refl, refl)
accepted_both none false e = let z : ◌≡◌ {A = ℕ} 0 1 = cc in absurd (omega arith)
accepted_both (some v) b e = let z : ◌≡◌ {A = ℕ} 0 1 = cc in absurd (omega arith)

over_first : (f : Option ℕ) (b : Bool) {n : ℕ} → judge f b ≡ Err (Overspecified n) → meets7 f ≡ false
over_first none true e = let z : ◌≡◌ {A = ℕ} 0 1 = cc in absurd (omega arith)
over_first none false e = let z : ◌≡◌ {A = ℕ} 0 1 = cc in absurd (omega arith)
over_first (some v) b e = refl

under_second : (f : Option ℕ) (b : Bool) → judge f b ≡ Err Underspecified → (meets7 f ≡ true) × (b ≡ false)
under_second none true e = let z : ◌≡◌ {A = ℕ} 0 1 = cc in absurd (omega arith)
under_second none false e = (refl, refl)
under_second (some v) b e = let z : ◌≡◌ {A = ℕ} 0 1 = cc in absurd (omega arith)

never_short : (f : Option ℕ) (b : Bool) → judge f b ≡ Err TooShort → ⊥
never_short none true e = let z : ◌≡◌ {A = ℕ} 0 1 = cc in omega arith
never_short none false e = let z : ◌≡◌ {A = ℕ} 0 1 = cc in omega arith
never_short (some v) b e = let z : ◌≡◌ {A = ℕ} 0 1 = cc in omega arith

both_accepted : (f : Option ℕ) (b : Bool) → meets7 f ≡ true → b ≡ true → judge f b ≡ Accepted
both_accepted none true p q = refl
both_accepted none false p q = let z : ◌≡◌ {A = ℕ} 0 1 = cc in absurd (omega arith)
both_accepted (some v) b p q = let z : ◌≡◌ {A = ℕ} 0 1 = cc in absurd (omega arith)

module _ (lengths : List ℕ) where
  pub accepted_meets : verdict lengths ≡ Accepted → (meets7 (first_refused lengths) ≡ true) × (meets8 (free_after lengths) (is_lone (used lengths)) ≡ true)
  unfolding verdict
  accepted_meets e = accepted_both (first_refused lengths) (meets8 (free_after lengths) (is_lone (used lengths))) e

  pub overspecified_breaks7 : {n : ℕ} → verdict lengths ≡ Err (Overspecified n) → meets7 (first_refused lengths) ≡ false
  unfolding verdict
  overspecified_breaks7 e = over_first (first_refused lengths) (meets8 (free_after lengths) (is_lone (used lengths))) e

  pub underspecified_breaks8 : verdict lengths ≡ Err Underspecified → (meets7 (first_refused lengths) ≡ true) × (meets8 (free_after lengths) (is_lone (used lengths)) ≡ false)
  unfolding verdict
  underspecified_breaks8 e = under_second (first_refused lengths) (meets8 (free_after lengths) (is_lone (used lengths))) e

  pub verdict_not_short : verdict lengths ≡ Err TooShort → ⊥
  unfolding verdict
  verdict_not_short e = never_short (first_refused lengths) (meets8 (free_after lengths) (is_lone (used lengths))) e

  pub meets_accepted : meets7 (first_refused lengths) ≡ true → meets8 (free_after lengths) (is_lone (used lengths)) ≡ true → verdict lengths ≡ Accepted
  unfolding verdict
  meets_accepted p q = both_accepted (first_refused lengths) (meets8 (free_after lengths) (is_lone (used lengths))) p q
