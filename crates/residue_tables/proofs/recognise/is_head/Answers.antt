-- `residue_tables::recognise::is_head` meets its contract, by RecogniseLaws. Assumes nothing.
use Rattle.residue_tables.proofs.RecogniseLaws.{head_judged}
use Rattle.residue_tables.proofs.recognise.is_head.Goals as goal

pub returns-then-head-book_count : goal.returns-then-head-book_count
returns-then-head-book_count c =
    let f = c.if-head-book_count.true in
    head_judged _ _ _ f.0 f.1 f.2 f.3 f.4 f.5 f.6 f.7 c.head_fits.ensures
