-- What the loops of `smallest_block` and `split_block` compute, by the places of the array.
use Rattle.std.specs.Prelude.{cond, List, ℕ, zero, suc, ◌+◌, ◌^◌, ltb, get_or, set}
use Rattle.codespace.specs.Inner.Blocks.{vacant}

-- the first of the n places from g on that holds a block, or g + n
unfoldable pub first_occupied : ℕ → ℕ → List ℕ → ℕ
first_occupied zero g bs = g
first_occupied (suc n) g bs = cond (ltb (get_or bs g 0) vacant) g (first_occupied n (suc g) bs)

-- the n places from h on hold the upper halves of the blocks at a
unfoldable pub upper_halves : ℕ → ℕ → ℕ → List ℕ → List ℕ
upper_halves h zero a bs = bs
upper_halves h (suc n) a bs = set (upper_halves (suc h) n a bs) h (a + 2 ^ h)
