-- `setup_content::read_content` meets its contract, by ContentLaws. Assumes nothing.
use Rattle.setup.proofs.ReadIntoLaws.{read_into_back}
use Rattle.setup_content.proofs.ContentLaws.{room_books, content_refused, content_read}
use Rattle.setup_content.proofs.read_content.Goals as goal

pub read_books-requires : goal.read_books-requires
read_books-requires c = room_books _ _ _ _ _ _ _ _ _ _ _ c.requires.0 c.requires.1

pub read_rest-requires : goal.read_rest-requires
read_rest-requires c = (c.requires.2, c.requires.3, c.in_ok-book_count.ensures.count_bound)

pub returns-in_err-book_count : goal.returns-in_err-book_count
returns-in_err-book_count c = read_into_back c.from_residual.result _ c.from_residual.ensures.1 (content_refused _ _ _ _ c.in_err-book_count.ensures.read_into)

pub returns : goal.returns
returns c =
    content_read _ _ _ _ c.in_ok-book_count.ensures.read_into _ _ _ _ _ _ c.requires.0 c.in_ok-book_count.ensures.count_bound c.read_rest.ensures
