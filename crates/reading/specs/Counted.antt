-- Counts as a packet carries them, in a field that holds the count less one.
use Rattle.std.specs.Prelude.{ℕ, ◌≤◌}

-- a count that a field less one carries, up to so many
pub record Counted (most n : ℕ) : Type 0 where
  pub low : 1 ≤ n
  pub high : n ≤ most
