-- The least number below a bound that passes a test; how many numbers below it pass; whether all do.
-- The tests are Bool, so that a definition made from them can be computed where it is small.
use Rattle.std.specs.Prelude.{Bool, true, false, ◌&&◌, ◌≡◌, ℕ, zero, suc, ◌+◌, ◌<◌}
use Rattle.std.proofs.Math.Option.{Option, none, some}

-- a test as a number
abbrev pub one : Bool → ℕ
one true = 1
one false = 0

-- how many of the numbers below n pass the test
unfoldable pub count : (ℕ → Bool) → ℕ → ℕ
count f zero = 0
count f (suc n) = count f n + one (f n)

-- every number below n passes the test
unfoldable pub every : (ℕ → Bool) → ℕ → Bool
every f zero = true
every f (suc n) = every f n && f n

-- what was found before; else n, where it passes
abbrev pub or_else : Option ℕ → Bool → ℕ → Option ℕ
or_else (some v) t n = some v
or_else none true n = some n
or_else none false n = none

-- the least number below n that passes the test, or none
unfoldable pub lowest : (ℕ → Bool) → ℕ → Option ℕ
lowest f zero = none
lowest f (suc n) = or_else (lowest f n) (f n) n

-- v is the least number below n that passes the test
pub record Least (f : ℕ → Bool) (n v : ℕ) : Type 0 where
  pub below : v < n
  pub passes : f v ≡ true
  pub first : (u : ℕ) → u < v → f u ≡ false
