-- `book_lengths::entries::read_entries_at` meets its contract, by EntryLaws. Assumes nothing.
use native.Mathlib.Omega.{arith}
use Rattle.book_lengths.proofs.EntryLaws.{entries-stored}
use Rattle.book_lengths.proofs.entries.read_entries_at.Goals as goal

pub returns : goal.returns
returns c =
    let k = c.read_entries.auto in
    entries-stored _ _ _ _ _ _ _ _ c.read_entries.ensures (omega arith) (omega arith) (omega arith) c.requires.0 c.requires.1
