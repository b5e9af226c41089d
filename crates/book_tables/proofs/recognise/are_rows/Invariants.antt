-- `book_tables::recognise::are_rows` meets its contract. Assumes nothing.
use Rattle.book.specs.Inner.BookBuffers.{BookBuffers}
use Rattle.book_tables.specs.Inner.Recognised.{Countable}
use Rattle.book_tables.proofs.RecogniseLaws.{Progress}
use Rattle.book_tables.proofs.recognise.are_rows.Given as goal

abbrev pub invariant-loop-i : goal.invariant-loop-i
invariant-loop-i l =
    Countable l.limits l.count × BookBuffers l.limits l.books l.lengths l.codewords l.multiplicands × Progress l.limits l.count l.books l.lengths l.codewords l.multiplicands l.entries l.values l.i
