-- `book_tables::judge::is_head` meets its contract. Assumes nothing.
use Rattle.book_tables.proofs.TestLaws.{head_end}
use Rattle.book_tables.proofs.judge.is_head.Goals as goal

pub returns-then-row-limits : goal.returns-then-row-limits
returns-then-row-limits c = head_end _ _ _ c.requires c.if-row-limits.true
