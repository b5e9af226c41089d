-- `book_lengths::lengths::read_each` meets its contract, by LengthLaws and by Filling and Answers of bits. Assumes nothing.
use Rattle.bits.specs.Inner.Cursors.{position}
use Rattle.book.specs.LengthsReading.{entry_length}
use Rattle.bits.proofs.Filling.{Filling}
use Rattle.book_lengths.proofs.lengths.read_each.Given as goal

abbrev pub invariant-loop-entry : goal.invariant-loop-entry
invariant-loop-entry l = Filling (entry_length l.sparse) l.packet (position l.initial.at) l.initial.part l.at l.part l.entry-index
