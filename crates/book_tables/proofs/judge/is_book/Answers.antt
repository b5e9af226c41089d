-- `book_tables::judge::is_book` meets its contract. Assumes nothing.
use Rattle.std.proofs.Common.{arith}
use Rattle.book_tables.proofs.Written.{book_parts}
use Rattle.book_tables.proofs.judge.is_book.Goals as goal

pub returns-then-is_marked : goal.returns-then-is_marked
returns-then-is_marked c =
    let k = book_parts c.args.limits c.args.entries c.args.values c.args.row c.args.lengths.now c.args.codewords.now c.args.multiplicands.now c.requires in
    ((λ e. k.1 (grind arith, grind arith, grind arith, grind arith, grind arith, grind arith)), (λ r. let h = k.0 r in grind arith))
