-- Clearing a part of an output, as the code asks it; and an output whose front holds a list and whose rest was cleared. Assumes nothing.
use Prim.Native.Nat.{ℕ, zero, suc, ◌+◌, ◌-◌, ◌≤◌, min}
use native.Mathlib.Omega.{arith}
use mathlib.Core.List.{List, [], ◌∷◌, ◌++◌}
use mathlib.Core.Path.{◌≡◌, refl, ap, sym, ◌∙◌}
use lib.ListN.{length, get_or, set, take, drop, replicate, length-replicate, length-take, length-drop}
use lib.Seq.{sets}
use borrow.Rule.Slice.PartMut.{put_mid}
use Rattle.std.proofs.lemmas.List.{take-replicate}
use Rattle.reading.specs.Pad.{pad}
use Rattle.reading.proofs.Pads.{pad_nil}
use Rattle.reading.proofs.Tables.{sets_append, sets_out, copied}

module _ {A : Type 0} (z : A) (entry : List A) (from to : ℕ) where
  -- the part of n places from `from` on is cleared
  pub part_cleared : (n k : ℕ) (now : List A) → from ≤ length entry → n ≡ min (to - from) (length entry - from) → k ≡ n
      → now ≡ replicate (length (take k (drop from entry))) z → put_mid from k entry now ≡ sets entry from (replicate (to - from) z)
  part_cleared n k now h m e c =
      let many : length (replicate (to - from) z) ≡ to - from = length-replicate (to - from) z in
      let part : length (take k (drop from entry)) ≡ n = omega (arith, length-take k (drop from entry), length-drop from entry) in
      copied entry (replicate (to - from) z) now from n k h (omega arith) e
      (c ∙ ap (λ (j : ℕ). replicate j z) part ∙ sym (take-replicate n (to - from) z (omega arith)))

sets-suc : (x : ℕ) (l vs : List ℕ) (i : ℕ) → sets (x ∷ l) (suc i) vs ≡ x ∷ sets l i vs
sets-suc x l [] i = refl
sets-suc x l (v ∷ vs) i = sets-suc x (set l i v) vs (suc i)

-- an output that is zero from place z on, with zeros written before it
zeros_front : (z : ℕ) (l : List ℕ) → ((j : ℕ) → z ≤ j → get_or l j 0 ≡ 0) → sets l 0 (replicate z 0) ≡ pad (length l) []
unfolding pad
zeros_front zero [] h = refl
zeros_front zero (x ∷ l) h = rw (h 0 (omega arith)) (ap (λ (t : List ℕ). 0 ∷ t) (zeros_front zero l (λ j g. h (suc j) (omega arith))))
zeros_front (suc z) [] h = sets_out (replicate (suc z) 0) [] 0 (omega arith)
zeros_front (suc z) (x ∷ l) h = sets-suc 0 l (replicate z 0) 0 ∙ ap (λ (t : List ℕ). 0 ∷ t) (zeros_front z l (λ j g. h (suc j) (omega arith)))

-- an output that was zero from place p on, cleared up to there
pub front_cleared : (l : List ℕ) (p : ℕ) → ((j : ℕ) → p ≤ j → get_or l j 0 ≡ 0) → sets l 0 (replicate (p - 0) 0) ≡ replicate (length l) 0
front_cleared l p h = let e : p - 0 ≡ p = omega arith in rw e (zeros_front p l h ∙ pad_nil (length l))

list_front : (cs l : List ℕ) (z : ℕ) → ((j : ℕ) → length cs + z ≤ j → get_or l j 0 ≡ 0) → sets l 0 (cs ++ replicate z 0) ≡ pad (length l) cs
unfolding pad
list_front [] l z h = zeros_front z l (λ j g. h j (omega arith))
list_front (c ∷ cs) [] z h = sets_out (c ∷ cs ++ replicate z 0) [] 0 (omega arith)
list_front (c ∷ cs) (x ∷ l) z h = sets-suc c l (cs ++ replicate z 0) 0 ∙ ap (λ (t : List ℕ). c ∷ t) (list_front cs l z (λ j g. h (suc j) (omega arith)))

-- AN OUTPUT that was zero from place p on, with a list written to its front and what lies between cleared, is the list with zeros behind it
pub front_padded : (l cs : List ℕ) (p : ℕ) → ((j : ℕ) → p ≤ j → get_or l j 0 ≡ 0) → sets (sets l 0 cs) (length cs) (replicate (p - length cs) 0) ≡ pad (length l) cs
front_padded l cs p h =
    let e : 0 + length cs ≡ length cs = omega arith in
    sym (rw e at (sets_append cs (replicate (p - length cs) 0) l 0)) ∙ list_front cs l (p - length cs) (λ j g. h j (omega arith))
