-- Laws of filling an array while reading: a loop over a list of items, of which i are done. Assumes nothing.
use Rattle.std.specs.Prelude.{Result, Ok, Err}
use Prim.Native.Nat.{ℕ, zero, suc, ◌+◌, ◌≤◌, ◌<◌}
use native.Mathlib.Omega.{arith}
use mathlib.Core.List.{List, [], ◌∷◌, ◌++◌, append-nil, append_assoc}
use mathlib.Core.Path.{◌≡◌, refl, sym, ap, ◌∙◌}
use lib.ListN.{length, get_or, set, take, replicate, length-append, length-set, length-replicate}
use Rattle.reading.specs.Outcome.{Outcome, ok, bad, then}
use Rattle.reading.specs.Reader.{Reader, many, each, mapped, puts, into, into1}
use Rattle.bits.specs.declared.Cursor.{Cursor}
use Rattle.bits.specs.declared.refusal.Refusal.{Refusal}
use Rattle.bits.specs.Inner.Cursors.{position, refusal_of, outcome, Wrote}
use Rattle.bits.proofs.Steps.{wrote_ok, wrote_bad, wrote_next, wrote_refused, EachRest, each_loop_start, each_loop_next, each_loop_refused, each_loop_done}
use Rattle.residue_reading.specs.Inner.Slots.{pad_with, Slots, slots, store}

-- `pad_with`: its length, nothing but fillers, the items in front
module _ {A : Type 0} (z : A) where
  pub pad_with_nil : (n : ℕ) → pad_with z n [] ≡ replicate n z
  unfolding pad_with
  pad_with_nil zero = refl
  pad_with_nil (suc n) = ap (λ (l : List A). z ∷ l) (pad_with_nil n)

  pub length-pad_with : (n : ℕ) (xs : List A) → length (pad_with z n xs) ≡ n
  unfolding pad_with
  length-pad_with zero xs = refl
  length-pad_with (suc n) [] = ap suc (length-pad_with n [])
  length-pad_with (suc n) (x ∷ xs) = ap suc (length-pad_with n xs)

  pub take_pad_with : (n : ℕ) (xs : List A) → length xs ≤ n → take (length xs) (pad_with z n xs) ≡ xs
  unfolding pad_with
  take_pad_with n [] h = refl
  take_pad_with zero (x ∷ xs) h = absurd (omega arith)
  take_pad_with (suc n) (x ∷ xs) h = ap (λ (l : List A). x ∷ l) (take_pad_with n xs (omega arith))

  pub pad_with_whole : (n : ℕ) (xs : List A) → length xs ≡ n → pad_with z n xs ≡ xs
  unfolding pad_with
  pad_with_whole zero [] h = refl
  pad_with_whole zero (x ∷ xs) h = absurd (omega arith)
  pad_with_whole (suc n) [] h = absurd (omega arith)
  pad_with_whole (suc n) (x ∷ xs) h = ap (λ (l : List A). x ∷ l) (pad_with_whole n xs (omega arith))

  set_pad_with : (n : ℕ) (xs : List A) (a : A) → set (pad_with z n xs) (length xs) a ≡ pad_with z n (xs ++ (a ∷ []))
  unfolding pad_with
  set_pad_with zero xs a = refl
  set_pad_with (suc n) [] a = refl
  set_pad_with (suc n) (x ∷ xs) a = ap (λ (l : List A). x ∷ l) (set_pad_with n xs a)

  puts-store : (n : ℕ) (l xs : List A) → puts store l (slots (pad_with z n xs) (length xs)) ≡ slots (pad_with z n (xs ++ l)) (length (xs ++ l))
  unfolding puts store
  puts-store n [] xs = rw append-nil
  puts-store n (a ∷ l) xs =
      let e : length xs + 1 ≡ length (xs ++ (a ∷ [])) = simp length-append in
      rw (set_pad_with n xs a, e) (puts-store n l (xs ++ (a ∷ [])) ∙ rw append_assoc)

  stored_all : (n : ℕ) (l : List A) → puts store l (slots (replicate n z) 0) ≡ slots (pad_with z n l) (length l)
  stored_all n l = rw (← pad_with_nil n) (puts-store n l [])

  -- what a filling loop comes to, as the array alone
  pub filled : (n : ℕ) (o : Outcome (List A × ℕ)) {st : Result Cursor Refusal} {cells : List A} {i : ℕ} → Wrote (into store o (slots (replicate n z) 0)) st (slots cells i)
      → Wrote (mapped (pad_with z n) o) st cells
  unfolding into mapped
  filled n (ok x) {st} {cells} {i} w =
      let e : slots (pad_with z n x.0) (length x.0) ≡ slots cells i = sym (stored_all n x.0) ∙ w.value (puts store x.0 (slots (replicate n z) 0), x.1) refl in
      record {
        step = w.step;
        value = λ y f.
            let g : ◌≡◌ {A = List A × ℕ} (pad_with z n x.0, x.1) y = cc in
            ap (λ (q : List A × ℕ). q.0) (sym g) ∙ ap (λ (t : Slots A). t.cells) e;
      }
  filled n (bad y) w = record { step = w.step; value = λ x f. let c : ◌≡◌ {A = ℕ} 0 1 = cc in absurd (omega arith) }

-- one item stored, or refused
module _ {A : Type 0} {o : Outcome (A × ℕ)} where
  stored : {v : A} {c : Cursor} (cells : List A) (i : ℕ) → o ≡ ok (v, position c) → Wrote (into1 store o (slots cells i)) (Ok c) (slots (set cells i v) (i + 1))
  unfolding into1 mapped store
  stored cells i e = wrote_next (rw e)

  not_stored : {z : Refusal} (t : Slots A) → o ≡ bad (refusal_of z) → Wrote (into1 store o t) (Err z) t
  unfolding into1 mapped
  not_stored t e = wrote_refused t (rw e)

-- d stands for an item past the list's end, z is the filler, n how many places the array has
module _ {A B : Type 0} (d : B) (z : A) (n : ℕ) (r : B → Reader A) (s : List ℕ) (l : List B) where
  pub record Filling (k₀ : Cursor) (cells : List A) (c : Cursor) (i : ℕ) : Type 0 where
    pub within : i ≤ length l
    pub long : length cells ≡ n
    pub rest : EachRest d store r s l (into store (each r l s (position k₀)) (slots (replicate n z) 0)) i c (slots cells i)

  pub fill_start : (k₀ : Cursor) → Filling k₀ (replicate n z) k₀ 0
  fill_start k₀ = record { within = omega arith; long = length-replicate n z; rest = each_loop_start d store r s l _ k₀ (slots (replicate n z) 0) refl }

  module _ {k₀ : Cursor} {cells : List A} {c : Cursor} {i : ℕ} (w : Filling k₀ cells c i) where
    pub fill_done : length l ≤ i → outcome (Ok (cells, c)) ≡ mapped (pad_with z n) (each r l s (position k₀))
    unfolding outcome
    fill_done h = sym (wrote_ok (filled z n (each r l s (position k₀)) (each_loop_done d store r s l _ i c (slots cells i) w.rest h)) refl)

    pub fill_next : i < length l → {v : A} {c' : Cursor} → r (get_or l i d) s (position c) ≡ ok (v, position c') → Filling k₀ (set cells i v) c' (i + 1)
    fill_next h {v} {c'} e =
        record {
          within = omega arith;
          long = simp length-set w.long;
          rest = each_loop_next d store r s l _ i c (slots cells i) w.rest h (stored cells i e) refl;
        }

    pub fill_refused : i < length l → (y : Refusal) → r (get_or l i d) s (position c) ≡ bad (refusal_of y)
        → outcome {A = List A} (Err y) ≡ mapped (pad_with z n) (each r l s (position k₀))
    unfolding outcome
    fill_refused h y e = sym (wrote_bad (filled z n (each r l s (position k₀)) (each_loop_refused d store r s l _ i c (slots cells i) w.rest h (not_stored (slots cells i) e) refl (slots cells i))) refl)

-- n times the same is once for each of n items
module _ {A : Type 0} (r : Reader A) where
  pub many_each : (n : ℕ) (s : List ℕ) (k : ℕ) → many r n s k ≡ each (λ (x : ℕ). r) (replicate n 0) s k
  unfolding many each
  many_each zero s k = refl
  many_each (suc n) s k = λ j. then (r s k) (λ x. then (many_each n s x.1 j) (λ y. ok (x.0 ∷ y.0, y.1)))
