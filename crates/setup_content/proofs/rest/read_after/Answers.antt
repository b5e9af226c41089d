-- `setup_content::rest::read_after` meets its contract, by RestLaws. Assumes nothing.
use Rattle.setup_content.proofs.RestLaws.{after_cleared}
use Rattle.setup_content.proofs.rest.read_after.Goals as goal

pub returns : goal.returns
returns c =
    after_cleared _ _ _ _ c.clear_after.ensures.0 c.clear_after.ensures.1 c.clear_after.ensures.2
    c.clear_after.ensures.3 c.clear_after.ensures.4 c.read_after_books.ensures
