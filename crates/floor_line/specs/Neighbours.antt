-- The neighbours of a place of the X list: by a search, as 000 sections 9.2.4 and 9.2.5, and in 01's words ("Audio order" 3). The numbers in comments are the steps
-- of 004, "curve computation", step 1. Assumes nothing: these are definitions.
use Rattle.std.specs.Prelude.{ℕ, ◌≤◌, ◌<◌, Bool, ◌&&◌, List, get_or, ltb}
use Rattle.floor_line.specs.Search.{searched}

-- X at a place of the list
abbrev pub x_at : List ℕ → ℕ → ℕ
x_at xs j = get_or xs j 0

-- X at j is below x, and greater than that at the place held; or above x, and less
unfoldable pub takes_low : List ℕ → ℕ → ℕ → ℕ → Bool
takes_low xs x j best = ltb (x_at xs j) x && ltb (x_at xs best) (x_at xs j)

unfoldable pub takes_high : List ℕ → ℕ → ℕ → ℕ → Bool
takes_high xs x j best = ltb x (x_at xs j) && ltb (x_at xs j) (x_at xs best)

-- 7, low_neighbor: of the places before i, that of the greatest X below the X of i. The search begins at place 0, which holds the least X of a floor
unfoldable pub low_neighbour : List ℕ → ℕ → ℕ
low_neighbour xs i = searched (takes_low xs (x_at xs i)) 0 0 i

-- 8, high_neighbor: of the places before i, that of the least X above the X of i. The search begins at place 1, which holds the greatest X of a floor
unfoldable pub high_neighbour : List ℕ → ℕ → ℕ
high_neighbour xs i = searched (takes_high xs (x_at xs i)) 1 0 i

-- the neighbours in 01's words: an earlier place, with an X below and none greater among such; with an X above and none less. It is shown where the first X
-- is the least and the second the greatest
pub record IsLow (xs : List ℕ) (i r : ℕ) : Type 0 where
  pub earlier : r < i
  pub below : x_at xs r < x_at xs i
  pub greatest : (j : ℕ) → j < i → x_at xs j < x_at xs i → x_at xs j ≤ x_at xs r

pub record IsHigh (xs : List ℕ) (i r : ℕ) : Type 0 where
  pub earlier : r < i
  pub above : x_at xs i < x_at xs r
  pub least : (j : ℕ) → j < i → x_at xs i < x_at xs j → x_at xs r ≤ x_at xs j
