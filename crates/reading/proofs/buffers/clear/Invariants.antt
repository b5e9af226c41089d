-- `reading::buffers::clear` meets its contract: the places before this one are cleared. Assumes nothing.
use Rattle.reading.proofs.BufferLaws.{Clearing}
use Rattle.reading.proofs.buffers.clear.Given as goal

abbrev pub invariant-loop-place : goal.invariant-loop-place
invariant-loop-place g l = Clearing g.T.Number.ZERO l.initial.buffer l.buffer l.place-index
