-- What a run of a floor's requests is known to be.
use Rattle.std.specs.Prelude.{ℕ, List, ◌≡◌}
use Rattle.std.proofs.Math.Option.{Option, none, some}
use Rattle.reading.specs.Reader.{mapped}
use Rattle.floor.specs.Content.{Floor}
use Rattle.floor_values.specs.Values.{floor_values}
use Rattle.requests.specs.Run.{read, run, outcome}
use Rattle.floor_requests.specs.Requests.{FloorRead, unused, values, floor_requests}

-- what the reader of floors gives, in the words of the tree
abbrev pub floor_read : Option (List ℕ) → FloorRead
floor_read none = unused
floor_read (some ys) = values ys

-- on every packet its value and position are what `floor_values` gives, and it is cut just where that is
pub record ReadsFloor (lengths_of : ℕ → List ℕ) (f : Floor) : Type 0 where
  pub same : (s : List ℕ) (k : ℕ) → outcome (run (read lengths_of) (floor_requests f) s k) ≡ mapped floor_read (floor_values lengths_of f s k)
