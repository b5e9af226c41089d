-- `read_run` meets its contract: the parts that it lends are the book's entries (book_codeword's laws), and a run of a book whose lengths are lent fills
-- the list as a run of the book in the tables does (proofs/Words). Assumes nothing.
use Rattle.book_codeword.proofs.Laws.{part_is}
use Rattle.book_codeword.proofs.Laws as stored
use Rattle.codeword_list.proofs.Words.{dimensions_low, run_read}
use Rattle.codeword_list.proofs.read_run.Goals as goal

pub read_vectors-requires : goal.read_vectors-requires
read_vectors-requires c =
    let p = c.requires in
    let lent = stored.asked p.1 c.first_entry-first.ensures c.entries.ensures c.lone-lone.ensures in
    (p.0, lent.0, lent.1, dimensions_low _ _ c.dimensions-dimensions.ensures p.2)

pub returns : goal.returns
returns c =
    let p = c.requires in
    let part = part_is p.1 c.first_entry-first.ensures c.entries.ensures c.lone-lone.ensures _ in
    run_read _ _ c.dimensions-dimensions.ensures _ _ _ _ part c.read_vectors.ensures
