-- `book_reading::read::read_books` meets its contract, by BooksLaws. Assumes nothing.
use Prim.Native.Nat.{◌≤◌}
use Rattle.bits.specs.Inner.Cursors.{position}
use Rattle.book.specs.Inner.BookBuffers.{BookBuffers}
use Rattle.book_reading.proofs.BooksLaws.{BooksRead}
use Rattle.book_reading.proofs.read.read_books.Given as goal

abbrev pub invariant-loop-index : goal.invariant-loop-index
invariant-loop-index l =
    BookBuffers l.limits l.initial.books l.initial.lengths l.initial.codewords l.initial.multiplicands
    × (l.count ≤ 256)
    × BooksRead l.limits l.packet l.count (position l.initial.at) l.initial.books l.initial.lengths l.initial.codewords l.initial.multiplicands l.at l.books l.lengths l.codewords l.multiplicands l.index l.so_far.entries l.so_far.values
