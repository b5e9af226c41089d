-- `book_codeword::read_entry` meets its contract: the parts that it lends are the book's entries (proofs/Laws). Assumes nothing.
use Rattle.book_codeword.proofs.Laws.{part_is, asked}
use Rattle.book_codeword.proofs.read_entry.Goals as goal

pub read_codeword-requires : goal.read_codeword-requires
read_codeword-requires c = asked c.requires c.first_entry-first.ensures c.entries.ensures c.lone-lone.ensures

pub returns-clause-result_value : goal.returns-clause-result_value
returns-clause-result_value c = rw (part_is c.requires c.first_entry-first.ensures c.entries.ensures c.lone-lone.ensures _) at c.read_codeword.ensures.result_value

pub returns-clause-settled : goal.returns-clause-settled
returns-clause-settled c = rw (part_is c.requires c.first_entry-first.ensures c.entries.ensures c.lone-lone.ensures _) at c.read_codeword.ensures.settled
