-- `book_row::mark::first_used` meets its contract, by the laws of a sole used entry. Assumes nothing.
use Prim.Native.Nat.{ℕ, ◌<◌}
use mathlib.Core.Bool.{false}
use mathlib.Core.Path.{◌≡◌}
use Rattle.codeword_assignment.specs.Book.{is_used}
use Rattle.book_row.proofs.mark.first_used.Given as goal

abbrev pub invariant-loop-entry : goal.invariant-loop-entry
invariant-loop-entry l = (u : ℕ) → u < l.entry → is_used l.lengths u ≡ false
