-- For callers: a lent list that has room holds the values at its front. Assumes nothing.
use Prim.Native.Nat.{ℕ, ◌≤◌}
use native.Mathlib.Omega.{arith}
use mathlib.Core.List.{List, [], ◌∷◌, ◌++◌}
use mathlib.Core.Path.{◌≡◌, refl, ap, ◌∙◌}
use lib.ListN.{length, take, drop}
use lib.Seq.{sets, take-append_seam}
use Rattle.reading.proofs.Runs.{sets_after}

pub front_is : (ys entry : List ℕ) → length ys ≤ length entry → sets entry 0 ys ≡ ys ++ drop (length ys) entry
front_is [] entry h = refl
front_is (y ∷ ys) [] h = absurd (omega arith)
front_is (y ∷ ys) (x ∷ entry) h = sets_after (y ∷ []) entry 1 0 ys (omega arith) ∙ ap (λ (l : List ℕ). y ∷ l) (front_is ys entry (omega arith))

pub front_taken : (ys entry : List ℕ) → length ys ≤ length entry → take (length ys) (sets entry 0 ys) ≡ ys
front_taken ys entry h = ap (take (length ys)) (front_is ys entry h) ∙ take-append_seam ys (drop (length ys) entry)
