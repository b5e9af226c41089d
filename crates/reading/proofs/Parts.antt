-- A part of a buffer, as the code takes it and as the definitions do. Assumes nothing.
use Prim.Native.Nat.{ℕ, zero, suc, ◌-◌}
use native.Mathlib.Nat.{sub-zero}
use native.Mathlib.Omega.{arith}
use mathlib.Core.List.{List, [], ◌∷◌}
use mathlib.Core.Path.{◌≡◌}
use lib.ListN.{take, drop}
use lib.Seq.{slice, take-nil}

pub part_slice : (from to : ℕ) (t : List ℕ) → take (to - from) (drop from t) ≡ slice from to t
part_slice zero to t = rw sub-zero
part_slice (suc from) zero t = let e : 0 - suc from ≡ 0 = omega arith in rw e
part_slice (suc from) (suc to) [] = take-nil (suc to - suc from)
part_slice (suc from) (suc to) (x ∷ t) = let e : suc to - suc from ≡ to - from = omega arith in rw e (part_slice from to t)
