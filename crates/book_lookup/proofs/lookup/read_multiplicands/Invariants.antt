-- `book_lookup::lookup::read_multiplicands` meets its contract, by LookupLaws and by Filling and Answers of bits. Assumes nothing.
use Rattle.bits.specs.Inner.Cursors.{position}
use Rattle.bits.specs.Field.{field}
use Rattle.bits.proofs.Filling.{Filling}
use Rattle.book_lookup.proofs.lookup.read_multiplicands.Given as goal

abbrev pub invariant-loop-place : goal.invariant-loop-place
invariant-loop-place l = Filling (field l.width) l.packet (position l.initial.at) l.initial.part l.at l.part l.place-index
