-- Laws of a loop that fills one list from another, place by place. Assumes nothing.
use Prim.Native.Nat.{ℕ, zero, suc, ◌+◌, ◌≤◌, ◌<◌}
use native.Mathlib.Nat.{eq-or-lt_of_le}
use native.Mathlib.Omega.{arith}
use mathlib.Core.List.{List, [], ◌∷◌, map}
use mathlib.Core.Logic.{◌⊎◌, ⊎_elim}
use mathlib.Core.Path.{◌≡◌, refl, sym, ap, ◌∙◌}
use lib.ListN.{length, get_or, set, length-set, length-map}
use lib.Seq.{get_or-set_same, get_or-set_other, ext_get_or}

pub get_d_map {ℓ} : {A B : Type ℓ} (f : A → B) (l : List A) (n : ℕ) (d : A) (e : B) → n < length l → get_or (map f l) n e ≡ f (get_or l n d)
get_d_map f [] n d e h = absurd (omega arith)
get_d_map f (x ∷ l) zero d e h = refl
get_d_map f (x ∷ l) (suc n) d e h = get_d_map f l n d e (omega arith)

pub map_set {ℓ} : {A B : Type ℓ} (f : A → B) (l : List A) (n : ℕ) (v : A) → map f (set l n v) ≡ set (map f l) n (f v)
map_set f [] n v = refl
map_set f (x ∷ l) zero v = refl
map_set {B = B} f (x ∷ l) (suc n) v = ap (λ (t : List B). f x ∷ t) (map_set f l n v)

-- the first i places hold what f makes of those of xs
pub record Filling (f : ℕ → ℕ) (xs out : List ℕ) (i : ℕ) : Type 0 where
  pub long : length out ≡ length xs
  pub within : i ≤ length xs
  pub done : (k : ℕ) → k < i → get_or out k 0 ≡ f (get_or xs k 0)

module _ (f : ℕ → ℕ) (xs out : List ℕ) where
  pub fill_begin : length out ≡ length xs → Filling f xs out 0
  fill_begin e = record { long = e; within = omega arith; done = λ k h. absurd (omega arith) }

  pub fill_turn : (i v : ℕ) → Filling f xs out i → i < length xs → v ≡ f (get_or xs i 0) → Filling f xs (set out i v) (i + 1)
  fill_turn i v w h e = record { long = length-set out i v ∙ w.long; within = omega arith; done = λ k l. at k (eq-or-lt_of_le {n = k} {m = i} (omega arith)) }
    where
      at : (k : ℕ) → (k ≡ i) ⊎ (k < i) → get_or (set out i v) k 0 ≡ f (get_or xs k 0)
      at k q =
          ⊎_elim (λ (p : k ≡ i). rw p (get_or-set_same out i v 0 (omega (arith, w.long)) ∙ e)) (λ (p : k < i). get_or-set_other out i k v 0 (omega arith) ∙ w.done k p) q

  pub fill_end : (i : ℕ) → Filling f xs out i → length xs ≤ i → out ≡ map f xs
  fill_end i w h =
      ext_get_or 0 out (map f xs) (w.long ∙ sym (length-map xs f)) (λ k l. w.done k (omega (arith, w.long)) ∙ sym (get_d_map f xs k 0 0 (omega (arith, w.long))))
