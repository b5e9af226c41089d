-- A search along the places of a list. Assumes nothing: these are definitions.
use Rattle.std.specs.Prelude.{ℕ, zero, suc, Bool, cond}

-- the place that is held after the n places from j on, where a place k takes the place of the one held, h, when `takes k h`
unfoldable pub searched : (ℕ → ℕ → Bool) → ℕ → ℕ → ℕ → ℕ
searched takes best j zero = best
searched takes best j (suc n) = searched takes (cond (takes j best) j best) (suc j) n
