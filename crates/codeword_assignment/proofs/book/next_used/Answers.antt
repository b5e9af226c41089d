-- `codeword_assignment::book::next_used` meets its contract: the used entries from `entry` on are those from `from` on. Assumes nothing.
use native.Mathlib.Omega.{arith}
use borrow.Author.Rules.{rules}
use Rattle.codeword_assignment.proofs.Assigning.{passed}
use Rattle.codeword_assignment.proofs.book.next_used.Goals as goal

pub returns-then-lengths-entry-ne0 : goal.returns-then-lengths-entry-ne0
returns-then-lengths-entry-ne0 c = record { within = search rules; same = search rules; is_used = λ h. omega arith }

pub loop-entry-preserved : goal.loop-entry-preserved
loop-entry-preserved c = (omega arith, passed c.args.lengths.now c.args.from c.loop-entry.entry c.loop-entry-test.true c.if-lengths-entry-ne0.false c.loop-entry.invariant.1)

pub returns : goal.returns
returns c = record { within = search rules; same = search rules; is_used = λ h. absurd (omega arith) }
