-- `reading::buffers::write` meets its contract, by Tables. Assumes nothing.
use native.Mathlib.Omega.{arith}
use Rattle.reading.proofs.Tables.{sets_past, copied}
use Rattle.reading.proofs.buffers.write.Goals as goal

pub returns-then-buffer-at : goal.returns-then-buffer-at
returns-then-buffer-at g c = search sets_past

pub returns : goal.returns
returns g c = copied _ _ _ _ _ _ (omega arith) c.min-count.ensures (omega arith) c.copy_from_slice.ensures.after
