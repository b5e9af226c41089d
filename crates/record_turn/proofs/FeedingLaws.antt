-- A count of the bytes from a place on lies inside: what `io::count` finds (docs/PORT.md). Assumes nothing.
use Prim.Native.Nat.{ℕ, ◌+◌, ◌-◌, ◌≤◌}
use native.Mathlib.Omega.{arith}
use mathlib.Core.List.{List}
use mathlib.Core.Path.{◌≡◌}
use lib.ListN.{length, take, drop, length-drop}
use lib.Seq.{length-take-le}

pub count_inside : (to : ℕ) (l : List ℕ) {n m : ℕ} → to ≤ m → length l ≡ m → n ≤ length (take (length l - to) (drop to l)) → to + n ≤ m
count_inside to l h e g =
    let a = length-drop to l in
    let b = length-take-le (length l - to) (drop to l) (omega (arith, a)) in
    omega (arith, a, b, h, e, g)
