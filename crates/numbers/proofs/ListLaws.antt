-- A law of padded lists. Assumes nothing.
use Prim.Native.Nat.{ℕ, ◌≤◌}
use native.Mathlib.Omega.{arith}
use mathlib.Core.List.{List}
use mathlib.Core.Path.{◌≡◌}
use lib.ListN.{length, take}
use Rattle.reading.specs.Pad.{pad}
use Rattle.reading.proofs.Pads.{pad_front}

-- the list itself, at the front of its buffer
pub take-pad : (room : ℕ) (xs : List ℕ) {n : ℕ} → length xs ≡ n → n ≤ room → take n (pad room xs) ≡ xs
take-pad room xs {n} e h = rw (← e) (pad_front room xs (omega arith))
