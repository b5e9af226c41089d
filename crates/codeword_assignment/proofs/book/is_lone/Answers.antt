-- `codeword_assignment::book::is_lone` meets its contract: the first used entry has length 1 and there is no second. Assumes nothing.
use Rattle.codeword_assignment.proofs.Assigning.{lone_none, lone_other, lone_one}
use Rattle.codeword_assignment.proofs.book.is_lone.Goals.{then-lengths-first-via-then-lengths-first, then-lengths-first-via-else-lengths-first+then-lengths-first-ne1}
use Rattle.codeword_assignment.proofs.book.is_lone.Goals as goal

pub returns-then-lengths-first : goal.returns-then-lengths-first
returns-then-lengths-first c =
    let n = c.next_used-first.ensures in
    elim c.then-lengths-first.branch [
      | then-lengths-first-via-then-lengths-first w ↦ lone_none _ _ n w.if-lengths-first.true
      | then-lengths-first-via-else-lengths-first+then-lengths-first-ne1 w ↦ lone_other _ _ n w.if-lengths-first.false w.if-lengths-first-ne1.true
    ]

pub returns : goal.returns
returns c = lone_one _ _ c.next_used-first.ensures _ c.if-lengths-first.false c.if-lengths-first-ne1.false c.next_used.ensures
