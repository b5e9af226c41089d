-- How many bits a number has (01, "Bits and books"; 000, 9.2.1).
use Rattle.std.specs.Prelude.{ℕ, zero, suc, ◌/◌, ◌%◌, ◌^◌, cond, eqb}

-- the place, counted from 1, of the highest set bit among the low n bits; 0 where none is set
unfoldable pub highest_set : ℕ → ℕ → ℕ
highest_set zero v = 0
highest_set (suc n) v = cond (eqb (v / 2 ^ n % 2) 1) (suc n) (highest_set n v)

-- of a number of 32 bits
unfoldable pub ilog : ℕ → ℕ
ilog v = highest_set 32 v
