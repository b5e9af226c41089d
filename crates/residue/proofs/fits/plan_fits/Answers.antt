-- `residue::fits::plan_fits` meets its contract, by FitsLaws. Assumes nothing.
use Rattle.std.proofs.Common.{◌∙◌, rules, tests}
use Rattle.std.proofs.lemmas.Iterator.{YieldsList-from_slice}
use Rattle.std.proofs.lemmas.Iterator.Search.{all_from_yields_List}
use Rattle.reading.specs.Lists.{all}
use Rattle.residue.specs.Reading.{place_fits}
use Rattle.residue.specs.Inner.FromTable.{books_of}
use Rattle.residue.proofs.FitsLaws.{list_all-rows}
use Rattle.residue.proofs.fits.plan_fits.Goals as goal

pub returns : goal.returns
returns c =
    all_from_yields_List (λ row. all (place_fits (books_of 0 c.args.books.now) c.args.size) row) _ _ _ c.all.ensures.ran (YieldsList-from_slice c.args.plan.now cc) (λ x b q k. search (rules, tests))
    ∙ list_all-rows (place_fits (books_of 0 c.args.books.now) c.args.size) c.args.plan.now
