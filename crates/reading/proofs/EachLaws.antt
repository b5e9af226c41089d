-- Claims of each item of a list: one from another, from two, and of the item at a place; a test of each number, at a place. Assumes nothing.
use Prim.Native.Nat.{ℕ, zero, suc, ◌<◌}
use native.Mathlib.Omega.{arith}
use mathlib.Core.Bool.{Bool, true}
use mathlib.Core.List.{List, [], ◌∷◌}
use mathlib.Core.Path.{◌≡◌}
use lib.ListN.{length, get_or}
use Rattle.reading.specs.Encoding.{Each}
use Rattle.reading.specs.Lists.{all}
use Rattle.reading.proofs.Least.{and_split}

module _ {A : Type 0} where
  pub each_map : {P Q : A → Type 0} → ((a : A) → P a → Q a) → (l : List A) → Each P l → Each Q l
  unfolding Each
  each_map f [] e = tt
  each_map f (a ∷ l) e = (f a e.0, each_map f l e.1)

  pub each_both : {P Q R : A → Type 0} → ((a : A) → P a → Q a → R a) → (l : List A) → Each P l → Each Q l → Each R l
  unfolding Each
  each_both f [] d e = tt
  each_both f (a ∷ l) d e = (f a d.0 e.0, each_both f l d.1 e.1)

  pub each_at : (P : A → Type 0) (none : A) (l : List A) → Each P l → (i : ℕ) → i < length l → P (get_or l i none)
  unfolding Each
  each_at P none [] e i h = absurd (omega arith)
  each_at P none (a ∷ l) e zero h = e.0
  each_at P none (a ∷ l) e (suc i) h = each_at P none l e.1 i (omega arith)

-- a test that every number passes, of the number at a place
pub all_at : (f : ℕ → Bool) (l : List ℕ) → all f l ≡ true → (i : ℕ) → i < length l → f (get_or l i 0) ≡ true
unfolding all
all_at f [] e i h = absurd (omega arith)
all_at f (x ∷ l) e zero h = (and_split (f x) (all f l) e).0
all_at f (x ∷ l) e (suc i) h = all_at f l (and_split (f x) (all f l) e).1 i (omega arith)
