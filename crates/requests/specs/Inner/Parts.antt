-- A run in parts, and a tree that reads what a reader reads.
use Rattle.std.specs.Prelude.{ℕ, List, ◌++◌, ◌≡◌}
use Rattle.std.proofs.Math.Option.{Option, none, some}
use Rattle.reading.specs.Reader.{Reader}
use Rattle.requests.specs.Requests.{Request, Requests}
use Rattle.requests.specs.Run.{Item, Run, ended, run, outcome}

module _ {A B : Type 0} where
  -- items that were read, with the value they came to, and the run behind them; nothing behind a cut
  abbrev pub after : List Item → ℕ → Option A → (A → ℕ → Run B) → Run B
  after l n (some a) f = ended (l ++ (f a n).items) (f a n).position (f a n).value
  after l n none f = ended l n none

  -- a run, and then the next
  unfoldable pub joined : Run A → (A → ℕ → Run B) → Run B
  joined r f = after r.items r.position r.value f

-- the tree x, where it has to be read whole, is the reader r
unfoldable pub Reads : {A : Type 0} → (Request → Reader ℕ) → Requests A → Reader A → Type 0
Reads reads x r = (s : List ℕ) (k : ℕ) → outcome (run reads x s k) ≡ r s k
