-- `book_lengths::lengths::read_runs` meets its contract, by LengthLaws. Assumes nothing.
use Prim.Native.Nat.{◌-◌, ◌<◌}
use lib.ListN.{length}
use Rattle.bits.specs.Inner.Cursors.{position}
use Rattle.book_lengths.proofs.LengthLaws.{Running}
use Rattle.book_lengths.proofs.lengths.read_runs.Given as goal

abbrev pub invariant-loop-entry : goal.invariant-loop-entry
invariant-loop-entry l = (length l.initial.part < 4294967296) × Running l.place l.first l.packet (position l.initial.at) l.initial.part l.at l.bits l.part l.entry

abbrev pub decreases-loop-entry : goal.decreases-loop-entry
decreases-loop-entry l = 33 - l.bits
