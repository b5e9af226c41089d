-- The mark of a book whose lengths lie within a table, as the code asks it. Assumes nothing.
use Prim.Native.Nat.{ℕ, ◌+◌, ◌-◌}
use native.Mathlib.Omega.{arith}
use mathlib.Core.List.{List}
use mathlib.Core.Path.{◌≡◌}
use lib.ListN.{take, drop}
use Rattle.codeword_assignment.specs.Book.{lone_mark}

-- first and count as the code holds them
pub mark_part : (ls : List ℕ) (first count : ℕ) {a b r : ℕ} → a ≡ first → b ≡ count → r ≡ lone_mark (take (a + b - a) (drop a ls))
    → r ≡ lone_mark (take count (drop first ls))
mark_part ls first count {a} {b} e f p = let n : a + b - a ≡ count = omega arith in rw (n, e) at p
