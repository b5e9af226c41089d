-- Which residues a packet can carry, whatever the rules say of them (001): numbers that fit their fields, and as many as the numbers before say.
use Rattle.std.specs.Prelude.{ℕ, ◌^◌, ◌<◌, List, [], ◌∷◌, ◌≡◌, length}
use Rattle.reading.specs.Counted.{Counted}
use Rattle.residue.specs.Content.{Residue}

-- every row of a plan has 8 places
unfoldable pub Rows8 : List (List ℕ) → Type 0
Rows8 [] = Unit {0}
Rows8 (row ∷ l) = (length row ≡ 8) × Rows8 l

-- a row of 8 passes for each class
pub record CarriedResidue (r : Residue) : Type 0 where
  pub begin : r.begin < 2 ^ 24
  pub end : r.end < 2 ^ 24
  pub size : Counted (2 ^ 24) r.size
  pub classifications : Counted 64 r.classifications
  pub plan : length r.plan ≡ r.classifications
  pub passes : Rows8 r.plan
