-- Laws of rows of 8 places, put one after the other. Assumes nothing.
use Prim.Native.Nat.{ℕ, zero, suc, ◌+◌, ◌*◌, ◌≤◌, ◌<◌}
use native.Mathlib.Numerals.{add-one}
use native.Mathlib.Omega.{arith}
use mathlib.Core.Bool.{Bool, ◌&&◌, and_assoc}
use mathlib.Core.List.{List, [], ◌∷◌, ◌++◌, append_assoc, append-nil}
use mathlib.Core.Path.{◌≡◌, refl, sym, ap, ◌∙◌}
use lib.ListN.{length, get_or, take, length-append}
use lib.Seq.{take-suc}
use Rattle.reading.specs.Pad.{pad}
use Rattle.reading.specs.Lists.{all, rows}
use Rattle.residue.specs.Carried.{Rows8}

pub all_append : (f : ℕ → Bool) (xs ys : List ℕ) → all f (xs ++ ys) ≡ all f xs && all f ys
unfolding all
all_append f [] ys = refl
all_append f (x ∷ xs) ys = ap (λ (b : Bool). f x && b) (all_append f xs ys) ∙ sym (and_assoc (f x) (all f xs) (all f ys))

pub rows_append : (xs ys : List (List ℕ)) → rows (λ row. row) (xs ++ ys) ≡ rows (λ row. row) xs ++ rows (λ row. row) ys
unfolding rows
rows_append [] ys = refl
rows_append (x ∷ xs) ys = ap (λ (l : List ℕ). x ++ l) (rows_append xs ys) ∙ sym (append_assoc x (rows (λ row. row) xs) (rows (λ row. row) ys))

-- the first i + 1 rows: the first i and then one more
pub rows_more : (plan : List (List ℕ)) (i : ℕ) → i < length plan → rows (λ row. row) (take (i + 1) plan) ≡ rows (λ row. row) (take i plan) ++ get_or plan i []
unfolding rows
rows_more plan i h = rw (add-one, take-suc plan i [] h, rows_append) (ap (λ (l : List ℕ). rows (λ row. row) (take i plan) ++ l) (append-nil (get_or plan i [])))

-- the first i rows have 8 * i places
pub rows_long : (plan : List (List ℕ)) (i : ℕ) → Rows8 plan → i ≤ length plan → length (rows (λ row. row) (take i plan)) ≡ 8 * i
unfolding rows Rows8
rows_long plan zero r h = refl
rows_long [] (suc i) r h = absurd (omega arith)
rows_long (x ∷ plan) (suc i) r h =
    let a = r.0 in
    let b = rows_long plan i r.1 (omega arith) in
    simp length-append (omega arith)

-- a padded list whose front is known
pub pad_cat : (m : ℕ) (xs ys : List ℕ) (n : ℕ) → m ≡ length xs + n → pad m (xs ++ ys) ≡ xs ++ pad n ys
unfolding pad
pad_cat m [] ys n e = let f : m ≡ n = omega arith in ap (λ (j : ℕ). pad j ys) f
pad_cat zero (x ∷ xs) ys n e = absurd (omega arith)
pad_cat (suc m) (x ∷ xs) ys n e = ap (λ (l : List ℕ). x ∷ l) (pad_cat m xs ys n (omega arith))
