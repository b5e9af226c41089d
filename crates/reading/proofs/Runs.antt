-- A run of stores into one part of a buffer leaves the other parts as they are. Assumes nothing.
use Prim.Native.Nat.{ℕ, suc, ◌+◌, ◌≤◌}
use native.Mathlib.Omega.{arith}
use mathlib.Core.List.{List, [], ◌∷◌, ◌++◌}
use mathlib.Core.Path.{◌≡◌, refl, sym, ap, ◌∙◌}
use lib.ListN.{length, set, length-set, replicate-append-replicate}
use lib.Seq.{sets, set-append_left}
use Rattle.reading.specs.Pad.{pad}
use Rattle.reading.proofs.Pads.{pad_nil}

set_after : (xs ys : List ℕ) (j v : ℕ) → set (xs ++ ys) (length xs + j) v ≡ xs ++ set ys j v
set_after [] ys j v = let e : 0 + j ≡ j = omega arith in rw e
set_after (x ∷ xs) ys j v = let e : suc (length xs) + j ≡ suc (length xs + j) = omega arith in rw e (ap (λ (l : List ℕ). x ∷ l) (set_after xs ys j v))

-- a run that begins behind xs
pub sets_after : (xs ys : List ℕ) (i j : ℕ) (vs : List ℕ) → i ≡ length xs + j → sets (xs ++ ys) i vs ≡ xs ++ sets ys j vs
sets_after xs ys i j [] e = refl
sets_after xs ys i j (v ∷ vs) e =
    ap (λ (k : ℕ). sets (set (xs ++ ys) k v) (suc i) vs) e
    ∙ ap (λ (l : List ℕ). sets l (suc i) vs) (set_after xs ys j v)
    ∙ sets_after xs (set ys j v) (suc i) (suc j) vs (omega arith)

-- a run that ends before ys
pub sets_before : (xs ys : List ℕ) (i : ℕ) (vs : List ℕ) → i + length vs ≤ length xs → sets (xs ++ ys) i vs ≡ sets xs i vs ++ ys
sets_before xs ys i [] h = refl
sets_before xs ys i (v ∷ vs) h =
    let l = length-set xs i v in
    ap (λ (l : List ℕ). sets l (suc i) vs) (set-append_left xs ys i v (omega arith)) ∙ sets_before (set xs i v) ys (suc i) vs (omega arith)

-- zeros in two parts
pub zeros_split : (m n : ℕ) → pad (m + n) [] ≡ pad m [] ++ pad n []
zeros_split m n = pad_nil (m + n) ∙ sym (replicate-append-replicate m n 0) ∙ (λ j. sym (pad_nil m) j ++ sym (pad_nil n) j)
