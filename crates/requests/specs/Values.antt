-- The values of runs: of several trees, those that were whole before a cut; and a run's value as a function of its answers. Assumes nothing: these are definitions.
use Rattle.std.specs.Prelude.{ℕ, List, [], ◌∷◌}
use Rattle.std.proofs.Math.Option.{Option, none, some}
use Rattle.reading.specs.Reader.{Reader}
use Rattle.requests.specs.Requests.{Request, Requests, done, ask}
use Rattle.requests.specs.Run.{run}

module _ {A : Type 0} where
  -- a value before others; nothing stands behind a cut
  abbrev pub unless_cut : Option A → List A → List A
  unless_cut (some a) l = a ∷ l
  unless_cut none l = []

  -- THE VALUE THAT ANSWERS COME TO, in the order of the requests; none where they are too few
  unfoldable pub replay : Requests A → List ℕ → Option A
  replay (done a) l = some a
  replay (ask q f) [] = none
  replay (ask q f) (v ∷ l) = replay (f v) l

module _ {A B : Type 0} where
  -- OF THE TREES `each g bs`, the values of those that are whole: floors read before a cut stand (01, "Audio order" 2)
  unfoldable pub whole_values : (Request → Reader ℕ) → (B → Requests A) → List B → List ℕ → ℕ → List A
  whole_values reads g [] s k = []
  whole_values reads g (b ∷ bs) s k = unless_cut (run reads (g b) s k).value (whole_values reads g bs s (run reads (g b) s k).position)
