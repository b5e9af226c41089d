-- Lists in the definitions, padded buffers in memory: a buffer holds a list and then zeros (01: "zeros past the fixed need").
use Rattle.std.specs.Prelude.{ℕ, zero, suc, List, [], ◌∷◌}

-- the first n of xs, and zeros where xs has fewer
unfoldable pub pad : ℕ → List ℕ → List ℕ
pad zero xs = []
pad (suc n) [] = 0 ∷ pad n []
pad (suc n) (x ∷ xs) = x ∷ pad n xs
