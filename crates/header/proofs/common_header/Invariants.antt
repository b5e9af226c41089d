-- `header::common_header` meets its contract. The loop's invariant: what is left of the opening, read at the cursor, gives the same as the whole. Assumes
-- nothing.
use Prim.Native.Nat.{◌≤◌}
use mathlib.Core.Path.{◌≡◌}
use lib.ListN.{length, drop}
use Rattle.bits.specs.Inner.Cursors.{position}
use Rattle.header.specs.Header.{exactly}
use Rattle.header.proofs.common_header.Given as goal

abbrev pub invariant-loop-i : goal.invariant-loop-i
invariant-loop-i l =
    (l.i ≤ 7) × (length l.expected ≡ 7) × (exactly (drop l.i l.expected) l.packet (position l.at) ≡ exactly l.expected l.packet 0)
