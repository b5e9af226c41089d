-- A number as a row of its own.
use Rattle.std.specs.Prelude.{ℕ, List, [], ◌∷◌}

unfoldable pub cell : ℕ → List ℕ
cell v = v ∷ []
