-- The opening bytes come to a position, or to a refusal whose number is not 0. Assumes nothing.
use Prim.Native.Nat.{ℕ}
use native.Mathlib.Omega.{arith}
use mathlib.Core.List.{List, [], ◌∷◌}
use lib.Dec.{eqb}
use Rattle.reading.proofs.Outcomes.{Numbered, value, then_numbered}
use Rattle.bits.proofs.Numbers.{judged-field}
use Rattle.header.specs.Header.{exactly}

pub exactly_numbered : (bs : List ℕ) (s : List ℕ) (k : ℕ) → Numbered (exactly bs s k)
unfolding exactly
exactly_numbered [] s k = value k
exactly_numbered (b ∷ bs) s k = then_numbered (judged-field (λ v. eqb v b) 2 8 s k (omega arith)) (λ (x : ℕ × ℕ). exactly_numbered bs s x.1)
