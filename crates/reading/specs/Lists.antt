-- Small words about lists of numbers.
use Rattle.std.specs.Prelude.{ℕ, ◌+◌, Bool, true, false, not, ◌&&◌, ◌||◌, List, [], ◌∷◌, ◌++◌, eqb}

-- n stands in the list
unfoldable pub listed : ℕ → List ℕ → Bool
listed n [] = false
listed n (x ∷ xs) = eqb n x || listed n xs

-- no two are equal
unfoldable pub distinct : List ℕ → Bool
distinct [] = true
distinct (x ∷ xs) = not (listed x xs) && distinct xs

unfoldable pub sum : List ℕ → ℕ
sum [] = 0
sum (x ∷ xs) = x + sum xs

-- every number passes the test
unfoldable pub all : (ℕ → Bool) → List ℕ → Bool
all f [] = true
all f (x ∷ xs) = f x && all f xs

-- the lists that a function gives for each item, one after the other
module _ {A : Type 0} where
  unfoldable pub rows : (A → List ℕ) → List A → List ℕ
  rows f [] = []
  rows f (a ∷ l) = f a ++ rows f l
