-- Laws of padded lists: writing after what is there, reading what is there, and the zeros behind it. Assumes nothing.
use mathlib.Core.Path.{◌≡◌, refl, ap}
use mathlib.Core.List.{List, [], ◌∷◌, ◌++◌}
use Prim.Native.Nat.{ℕ, zero, suc, ◌≤◌, ◌<◌}
use native.Mathlib.Nat.{le_of_suc-le-suc}
use native.Mathlib.Omega.{arith}
use lib.ListN.{length, get_or, set, take, replicate}
use Rattle.reading.specs.Pad.{pad}

-- nothing but zeros
pub pad_nil : (n : ℕ) → pad n [] ≡ replicate n 0
unfolding pad
pad_nil zero = refl
pad_nil (suc n) = ap (λ (l : List ℕ). 0 ∷ l) (pad_nil n)

-- a buffer of n places keeps n places
pub length-pad : (n : ℕ) (xs : List ℕ) → length (pad n xs) ≡ n
unfolding pad
length-pad zero xs = refl
length-pad (suc n) [] = ap suc (length-pad n [])
length-pad (suc n) (x ∷ xs) = ap suc (length-pad n xs)

-- storing at the first free place appends, where there is room; where there is none, nothing changes on either side
pub pad-set : (n : ℕ) (xs : List ℕ) (i a : ℕ) → i ≡ length xs → set (pad n xs) i a ≡ pad n (xs ++ (a ∷ []))
unfolding pad
pad-set n xs i a e = rw e (go n xs)
  where
    go : (n : ℕ) (xs : List ℕ) → set (pad n xs) (length xs) a ≡ pad n (xs ++ (a ∷ []))
    go zero xs = refl
    go (suc n) [] = refl
    go (suc n) (x ∷ xs) = ap (λ (l : List ℕ). x ∷ l) (go n xs)

-- what a place of the buffer holds: the list's element, or zero past its end
pub pad_get : (n : ℕ) (xs : List ℕ) (i : ℕ) → i < n → get_or (pad n xs) i 0 ≡ get_or xs i 0
unfolding pad
pad_get zero xs i h = absurd (omega arith)
pad_get (suc n) [] zero h = refl
pad_get (suc n) [] (suc i) h = pad_get n [] i (le_of_suc-le-suc h)
pad_get (suc n) (x ∷ xs) zero h = refl
pad_get (suc n) (x ∷ xs) (suc i) h = pad_get n xs i (le_of_suc-le-suc h)

-- a list that fills the buffer stands there as it is
pub pad_whole : (n : ℕ) (xs : List ℕ) → length xs ≡ n → pad n xs ≡ xs
unfolding pad
pad_whole zero [] h = refl
pad_whole zero (x ∷ xs) h = absurd (omega arith)
pad_whole (suc n) [] h = absurd (omega arith)
pad_whole (suc n) (x ∷ xs) h = ap (λ (l : List ℕ). x ∷ l) (pad_whole n xs (omega arith))

-- a list that fits its places stands in front of the zeros
pub pad_front : (n : ℕ) (xs : List ℕ) → length xs ≤ n → take (length xs) (pad n xs) ≡ xs
unfolding pad
pad_front n [] l = refl
pad_front zero (x ∷ xs) l = absurd (omega arith)
pad_front (suc n) (x ∷ xs) l = ap (λ (t : List ℕ). x ∷ t) (pad_front n xs (le_of_suc-le-suc l))
