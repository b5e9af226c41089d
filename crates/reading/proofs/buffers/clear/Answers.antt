-- `reading::buffers::clear` meets its contract: the places before this one are cleared. Assumes nothing.
use Rattle.reading.proofs.BufferLaws.{clear_turn}
use Rattle.reading.proofs.buffers.clear.Goals as goal

pub loop-place-preserved : goal.loop-place-preserved
loop-place-preserved g c = rw c.ZERO.ensures (clear_turn _ _ _ _ c.loop-place-test.true c.loop-place.invariant)
