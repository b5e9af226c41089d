-- `book_row::mark::first_used` meets its contract, by the laws of a sole used entry. Assumes nothing.
use mathlib.Core.Path.{sym}
use native.Mathlib.Omega.{arith}
use Rattle.codeword_assignment.proofs.Lone.{used_passed, lone_there, first_is}
use Rattle.book_row.proofs.mark.first_used.Goals as goal

pub loop-entry-init : goal.loop-entry-init
loop-entry-init c = λ u h. absurd (omega arith)

pub returns-then-length-ne0 : goal.returns-then-length-ne0
returns-then-length-ne0 c = (sym (first_is _ c.requires _ c.loop-entry.invariant c.if-length-ne0.true (omega arith)), omega arith)

pub loop-entry-preserved : goal.loop-entry-preserved
loop-entry-preserved c = used_passed _ _ c.loop-entry.invariant c.if-length-ne0.false

pub unreachable-requires : goal.unreachable-requires
unreachable-requires c = lone_there _ c.requires _ c.loop-entry.invariant (omega arith)
