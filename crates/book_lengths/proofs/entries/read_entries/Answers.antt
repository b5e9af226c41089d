-- `book_lengths::entries::read_entries` meets its contract, by EntryLaws. Assumes nothing.
use Rattle.bits.proofs.Answers.{wrote_back}
use Rattle.book_lengths.proofs.EntryLaws.{entries_refused, entries_entered}
use Rattle.book_lengths.proofs.entries.read_entries.Goals as goal

pub returns-in_err-next : goal.returns-in_err-next
returns-in_err-next c = wrote_back c.from_residual.result _ c.from_residual.ensures.1 (entries_refused _ _ _ _ c.read_lengths.ensures c.in_err-next.was _)

pub returns : goal.returns
returns c = entries_entered _ _ _ _ c.read_lengths.ensures c.in_ok-next.was c.enter_lengths.ensures
