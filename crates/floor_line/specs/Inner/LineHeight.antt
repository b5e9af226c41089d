-- The line rule as the program computes it: with heights in place of Y values, which may be negative. Heights are numbers counted from -z, so that height h is
-- the Y value h - z. Assumes nothing: these are definitions.
use Rattle.std.specs.Prelude.{ℕ, ◌+◌, ◌-◌, cond, ltb, ℤ}
use Rattle.std.proofs.Math.IntN.{sub_ℕ}
use Rattle.floor_line.specs.Line.{offset}

-- a - b, as an integer
unfoldable pub difference : ℕ → ℕ → ℤ
difference a b = sub_ℕ a b

-- the height at x on the line from (x0, h0) to (x1, h1), from whatever number heights are counted
unfoldable pub line_height : ℕ → ℕ → ℕ → ℕ → ℕ → ℕ
line_height x0 h0 x1 h1 x = cond (ltb h1 h0) (h0 - offset x0 x1 (h0 - h1) x) (h0 + offset x0 x1 (h1 - h0) x)
