-- `book_tables::judge::are_narrow` meets its contract. Assumes nothing.
use Rattle.std.proofs.Common.{ℕ, ◌*◌, ◌%◌, ◌^◌, ◌∙◌, ap, ltb, rules, tests}
use Rattle.std.proofs.lemmas.Iterator.{YieldsList-from_slice}
use Rattle.std.proofs.lemmas.Iterator.Search.{all_from_yields_List}
use Rattle.reading.specs.Lists.{all}
use Rattle.book_tables.proofs.TestLaws.{list_all-all, one_shifted}
use Rattle.book_tables.proofs.judge.are_narrow.Goals as goal

pub returns : goal.returns
returns c =
    let part = c.args.part.now in
    let f = λ (bound v : ℕ). ltb v bound in
    all_from_yields_List (f ((1 * 2 ^ c.args.width) % 2 ^ 32)) _ _ _ c.all.ensures.ran (YieldsList-from_slice part cc) (λ x b q k. search (rules, tests))
    ∙ list_all-all (f ((1 * 2 ^ c.args.width) % 2 ^ 32)) part
    ∙ ap (λ (bound : ℕ). all (f bound) part) (one_shifted c.args.width c.requires)
