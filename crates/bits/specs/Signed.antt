-- A field of 32 bits as a signed number.
use Rattle.std.specs.Prelude.{ℕ, ◌-◌, cond, ltb, ℤ, pos, negsuc}

-- v, or v - 2 ^ 32 from 2 ^ 31 on: two's complement (000, 2.1.3). `negsuc n` is - (n + 1)
abbrev pub signed : ℕ → ℤ
signed v = cond (ltb v 2147483648) (pos v) (negsuc (4294967295 - v))
