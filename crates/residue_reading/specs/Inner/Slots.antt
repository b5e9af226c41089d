-- An array that is filled from the front while reading: a place for each item, and the same filler behind them.
use Rattle.std.specs.Prelude.{ℕ, zero, suc, ◌+◌, List, [], ◌∷◌, set}

module _ {A : Type 0} where
  -- the first n of xs, and z where xs has fewer
  unfoldable pub pad_with : A → ℕ → List A → List A
  pad_with z zero xs = []
  pad_with z (suc n) [] = z ∷ pad_with z n []
  pad_with z (suc n) (x ∷ xs) = x ∷ pad_with z n xs

-- the array, and its first place that is not filled yet
pub record Slots (A : Type 0) : Type 0 where
  pub cells : List A
  pub at : ℕ

module _ {A : Type 0} where
  abbrev pub slots : List A → ℕ → Slots A
  slots cells at = record { cells = cells; at = at }

  unfoldable pub store : A → Slots A → Slots A
  store a t = slots (set t.cells t.at a) (t.at + 1)
