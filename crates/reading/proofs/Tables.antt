-- Laws of filling a buffer row by row. Assumes nothing.
use Prim.Native.Nat.{ℕ, zero, suc, ◌+◌, ◌-◌, ◌≤◌, min}
use native.Mathlib.Nat.{add-zero, min_comm}
use native.Mathlib.Omega.{arith}
use mathlib.Core.List.{List, [], ◌∷◌, ◌++◌, append-nil, append_assoc}
use mathlib.Core.Path.{◌≡◌, refl, sym, ap, ◌∙◌}
use lib.ListN.{length, set, take, drop, replicate, length-append, length-set}
use lib.Seq.{sets, set_out}
use borrow.Rule.Slice.PartMut.{put_mid}
use Rattle.std.proofs.lemmas.List.{length-take-le, take_min, drop-drop}
use Rattle.std.proofs.lemmas.List.Edits.{sets-eq}
use Rattle.reading.specs.Pad.{pad}
use Rattle.reading.specs.Reader.{puts}
use Rattle.reading.specs.Lists.{rows}
use Rattle.reading.specs.Inner.Table.{table, put_row}
use Rattle.reading.proofs.Pads.{pad-set, pad_nil}

-- one run of stores and then another
pub sets_append : (xs ys l : List ℕ) (i : ℕ) → sets l i (xs ++ ys) ≡ sets (sets l i xs) (i + length xs) ys
sets_append [] ys l i = rw add-zero
sets_append (x ∷ xs) ys l i = let e : i + suc (length xs) ≡ suc i + length xs = omega arith in rw e (sets_append xs ys (set l i x) (suc i))

-- a run stored behind what is there appends
pub sets-pad : (n : ℕ) (ys xs : List ℕ) (i : ℕ) → i ≡ length xs → sets (pad n xs) i ys ≡ pad n (xs ++ ys)
sets-pad n [] xs i e = rw append-nil
sets-pad n (y ∷ ys) xs i e =
    ap (λ (l : List ℕ). sets l (suc i) ys) (pad-set n xs i y e)
    ∙ sets-pad n ys (xs ++ (y ∷ [])) (suc i) (simp length-append (omega arith))
    ∙ ap (pad n) (append_assoc xs (y ∷ []) ys)

-- a run stored from the front of a cleared buffer
pub sets_cleared : (n : ℕ) (ys : List ℕ) → sets (replicate n 0) 0 ys ≡ pad n ys
sets_cleared n ys = ap (λ (l : List ℕ). sets l 0 ys) (sym (pad_nil n)) ∙ sets-pad n ys [] 0 refl

-- the rows of many items, put one after the other, are one run
module _ {A : Type 0} (row : A → List ℕ) where
  pub puts-rows : (items : List A) (l : List ℕ) (i : ℕ) → puts (put_row row) items (table l i) ≡ table (sets l i (rows row items)) (i + length (rows row items))
  unfolding puts put_row rows
  puts-rows [] l i = rw add-zero
  puts-rows (a ∷ items) l i =
      let e : i + length (row a) + length (rows row items) ≡ i + length (row a ++ rows row items) = simp length-append (omega arith) in
      puts-rows items (sets l i (row a)) (i + length (row a))
      ∙ (λ j. table (sym (sets_append (row a) (rows row items) l i) j) (e j))

module _ {A : Type 0} where
  -- a run of stores that begins past the end stores nothing
  pub sets_out : (vs l : List A) (i : ℕ) → length l ≤ i → sets l i vs ≡ l
  sets_out [] l i h = refl
  sets_out (v ∷ vs) l i h = rw (set_out l i v h) (sets_out vs l (suc i) (omega arith))

  -- of a run that is longer than the places left, the first ones are stored
  pub sets_fitting : (vs l : List A) (i n : ℕ) → length l ≤ i + n → sets l i (take n vs) ≡ sets l i vs
  sets_fitting [] l i zero h = refl
  sets_fitting [] l i (suc n) h = refl
  sets_fitting (v ∷ vs) l i zero h = sym (sets_out (v ∷ vs) l i (omega arith))
  sets_fitting (v ∷ vs) l i (suc n) h = let e = length-set l i v in sets_fitting vs (set l i v) (suc i) n (omega arith)

  -- the part of a buffer from `at` on as it is after n values were copied into it
  pub copied : (entry values now : List A) (at n k : ℕ) → at ≤ length entry → n ≡ min (length values) (length entry - at) → k ≡ n → now ≡ take n values
      → put_mid at k entry now ≡ sets entry at values
  copied entry values now at n k h m e c =
      let short : now ≡ take (length entry - at) values = c ∙ ap (λ (j : ℕ). take j values) (m ∙ min_comm (length values) (length entry - at)) ∙ take_min (length entry - at) values in
      let long : length now ≡ k = rw (c, e) (length-take-le n values (omega arith)) in
      let whole : sets entry at now ≡ sets entry at values = rw short (sets_fitting values entry at (length entry - at) (omega arith)) in
      let behind : drop k (drop at entry) ≡ drop (at + length now) entry = rw long (drop-drop k at entry) in
      ap (λ (l : List A). take at entry ++ (now ++ l)) behind ∙ sym (append_assoc (take at entry) now _) ∙ sym (sets-eq now entry at (omega arith)) ∙ whole

  pub sets_past : (l : List A) (i : ℕ) (vs : List A) → length l ≤ i → l ≡ sets l i vs
  sets_past l i vs h = sym (sets_out vs l i h)
