-- What the values that are read for a floor are known to be, stated without the program.
use Rattle.std.specs.Prelude.{ℕ, ◌<◌, List, ◌⊎◌, ◌≡◌, length, get_or, take}
use Rattle.std.proofs.Math.Option.{some}
use Rattle.reading.specs.Outcome.{Refusal, refusal, Outcome, ok, bad}
use Rattle.floor.specs.Content.{x_list, Floor}
use Rattle.floor_values.specs.Values.{floor_values}

-- what reading a cut packet comes to, beside what the whole packet gives: the same, or the cut
unfoldable pub SameOrCut : {A : Type 0} → Outcome A → Outcome A → Type 0
SameOrCut of_cut of_whole = (of_cut ≡ of_whole) ⊎ ((place : ℕ) × (of_cut ≡ bad (refusal 1 place)))

pub record FloorValues (lengths_of : ℕ → List ℕ) (f : Floor) : Type 0 where
  -- as many values as X values
  pub counted : (s : List ℕ) (k : ℕ) (ys : List ℕ) (n : ℕ) → floor_values lengths_of f s k ≡ ok (some ys, n) → length ys ≡ length (x_list f.rangebits f.xs)
  -- the first two have 8 bits, every other 16
  pub first : (s : List ℕ) (k : ℕ) (ys : List ℕ) (n : ℕ) → floor_values lengths_of f s k ≡ ok (some ys, n) → (get_or ys 0 0 < 256) × (get_or ys 1 0 < 256)
  pub small : (s : List ℕ) (k : ℕ) (ys : List ℕ) (n : ℕ) → floor_values lengths_of f s k ≡ ok (some ys, n) → (i : ℕ) → get_or ys i 0 < 65536
  -- nothing but a missing bit is refused
  pub refused : (s : List ℕ) (k : ℕ) (z : Refusal) → floor_values lengths_of f s k ≡ bad z → z.number ≡ 1
  -- a packet cut after any byte gives the same, or the cut (01: "floors read before the cut are the same")
  pub cut : (s : List ℕ) (b k : ℕ) → SameOrCut (floor_values lengths_of f (take b s) k) (floor_values lengths_of f s k)
