-- `codeword_assignment::book::next_used` meets its contract: the used entries from `entry` on are those from `from` on. Assumes nothing.
use mathlib.Core.Path.{◌≡◌}
use Prim.Native.Nat.{◌≤◌}
use lib.ListN.{length, drop}
use Rattle.codeword_assignment.specs.Book.{used}
use Rattle.codeword_assignment.proofs.book.next_used.Given as goal

abbrev pub invariant-loop-entry : goal.invariant-loop-entry
invariant-loop-entry l = (l.entry ≤ length l.lengths) × (used (drop l.from l.lengths) ≡ used (drop l.entry l.lengths))
