-- `setup_buffers::clear` meets its contract, by setup's TableLaws. Assumes nothing.
use Rattle.setup.proofs.TableLaws.{all_cleared}
use Rattle.setup_buffers.proofs.clear.Goals as goal

pub returns-clause-after : goal.returns-clause-after
returns-clause-after c =
    all_cleared _ _ _ _ _ _ _ _ _ _ c.clear.ensures c.clear_books.ensures.0.zeros
    c.clear_books.ensures.1.zeros c.clear_books.ensures.2.zeros c.clear_books.ensures.3.zeros
    c.clear_after.ensures.0.zeros c.clear_after.ensures.1.zeros c.clear_after.ensures.2.zeros
    c.clear_after.ensures.3.zeros c.clear_after.ensures.4.zeros
