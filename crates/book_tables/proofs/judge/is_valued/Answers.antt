-- `book_tables::judge::is_valued` meets its contract. Assumes nothing.
use Rattle.std.proofs.Common.{arith}
use Rattle.std.proofs.lemmas.Bool.Decides.{nat_tests}
use Rattle.book_tables.proofs.TestLaws.{valued_bounds}
use Rattle.book_tables.proofs.judge.is_valued.Goals as goal

pub returns-then-row-le1 : goal.returns-then-row-le1
returns-then-row-le1 c =
    let k = valued_bounds c.args.row (omega arith) (omega arith) in
    let t = c.if-row-le1.true in
    ((λ e. k.1 (t.0, t.1, t.2, grind (arith, nat_tests))), (λ r. let h = k.0 r in grind (arith, nat_tests)))
