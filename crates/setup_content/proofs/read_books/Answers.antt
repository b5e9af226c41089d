-- `setup_content::read_books` meets its contract, by ContentLaws. Assumes nothing.
use Rattle.setup_content.proofs.ContentLaws.{books_ready, books_cleared}
use Rattle.setup_content.proofs.read_books.Goals as goal

pub read_book_part-requires : goal.read_book_part-requires
read_book_part-requires c =
    books_ready _ c.clear_books.ensures.0 c.clear_books.ensures.1 c.clear_books.ensures.2
    c.clear_books.ensures.3 c.requires

pub returns-clause-read_into : goal.returns-clause-read_into
returns-clause-read_into c =
    books_cleared _ c.clear_books.ensures.0 c.clear_books.ensures.1 c.clear_books.ensures.2
    c.clear_books.ensures.3 _ _ c.read_book_part.ensures.read_into
