-- The list of a function's values at 0, 1, .., n - 1.
use Rattle.std.specs.Prelude.{List, [], ◌∷◌, ◌++◌, ℕ, zero, suc}

unfoldable pub tabulate : (ℕ → ℕ) → ℕ → List ℕ
tabulate g zero = []
tabulate g (suc n) = tabulate g n ++ (g n ∷ [])
