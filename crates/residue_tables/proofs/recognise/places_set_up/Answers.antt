-- `residue_tables::recognise::places_set_up` meets its contract. Assumes nothing.
use Rattle.std.proofs.Common.{◌∙◌, rules, tests}
use Rattle.std.proofs.lemmas.Iterator.{YieldsList-from_slice}
use Rattle.std.proofs.lemmas.Iterator.Search.{all_from_yields_List}
use lib.Dec.{leb}
use Rattle.residue.proofs.FitsLaws.{list_all-all}
use Rattle.residue_tables.proofs.recognise.places_set_up.Goals as goal

pub returns : goal.returns
returns c =
    all_from_yields_List (λ v. leb v c.args.book_count) _ _ _ c.all.ensures.ran (YieldsList-from_slice c.args.places.now cc) (λ x b q k. search (rules, tests))
    ∙ list_all-all (λ v. leb v c.args.book_count) c.args.places.now
