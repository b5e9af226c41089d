-- `floor_tables::below::are_below` meets its contract. Assumes nothing.
use Rattle.std.proofs.Common.{◌∙◌, ltb, rules, tests}
use Rattle.std.proofs.lemmas.Iterator.{YieldsList-from_slice}
use Rattle.std.proofs.lemmas.Iterator.Search.{all_from_yields_List}
use Rattle.floor_tables.proofs.Places.{list_all-all}
use Rattle.floor_tables.proofs.below.are_below.Goals as goal

pub returns : goal.returns
returns c =
    all_from_yields_List (λ v. ltb v c.args.limit) _ _ _ c.all.ensures.ran (YieldsList-from_slice c.args.numbers.now cc) (λ x b q k. search (rules, tests))
    ∙ list_all-all (λ v. ltb v c.args.limit) c.args.numbers.now
