-- Lengths that the verdict accepts: the ledger takes them; and a lone entry never fills the space. Assumes nothing.
use Prim.Native.Nat.{ℕ, ◌+◌, ◌≤◌}
use native.Mathlib.Omega.{arith}
use borrow.Author.Tests.{eqb-true}
use mathlib.Core.Bool.{Bool, true, false}
use mathlib.Core.List.{List, [], ◌∷◌}
use mathlib.Core.Option.{Option, none, some}
use mathlib.Core.Path.{◌≡◌, refl, ap}
use Rattle.codespace.specs.Ledger.{answer, answers, after, free_strings}
use Rattle.codespace.specs.Claims.{accepted, accepted_share}
use Rattle.codeword_assignment.specs.Book.{used, is_lone, free_after, verdict, Accepted, refusal}
use Rattle.codespace.proofs.Whole.{balance}
use Rattle.setup_judged.specs.Judged.{LedgerTakes}
use Rattle.setup_judged.proofs.JudgedLaws.{number_0}

pub accepted_takes : (ls : List ℕ) → verdict ls ≡ Accepted → LedgerTakes ls
accepted_takes ls v = number_0 ls (ap refusal v)

-- a lone entry leaves half of the space: nothing is left only where there is none
half : (l : ℕ) (o : Option ℕ) → l ≡ 1 → accepted_share l o ≤ 2147483648
half l none e = omega arith
half l (some v) e = rw e (omega arith)

lone_leaves : (us : List ℕ) → is_lone us ≡ true → free_strings (after [] us) ≡ 0 → ⊥
unfolding is_lone accepted answers
lone_leaves [] l f = let z : ◌≡◌ {A = ℕ} 0 1 = cc in omega arith
lone_leaves (u ∷ []) l f =
    let b : accepted_share u (answer [] u) + 0 + free_strings (after [] (u ∷ [])) ≡ 4294967296 = balance (u ∷ []) in
    let h = half u (answer [] u) (eqb-true u 1 l) in
    omega arith
lone_leaves (u ∷ v ∷ us) l f = let z : ◌≡◌ {A = ℕ} 0 1 = cc in omega arith

pub full_not_lone : (ls : List ℕ) → free_after ls ≡ 0 → is_lone (used ls) ≡ false
unfolding free_after
full_not_lone ls f = go (is_lone (used ls)) refl
  where
    go : (t : Bool) → is_lone (used ls) ≡ t → t ≡ false
    go true e = absurd (lone_leaves (used ls) e f)
    go false e = refl
