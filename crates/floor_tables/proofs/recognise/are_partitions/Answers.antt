-- `floor_tables::recognise::are_partitions` meets its contract. Assumes nothing.
use mathlib.Core.Bool.{not}
use mathlib.Core.Path.{refl, ap}
use native.Mathlib.Omega.{arith}
use Rattle.reading.proofs.Encodes.{iff_false}
use Rattle.floor_tables.proofs.FloorLaws.{partitions_not, partitions_end}
use Rattle.floor_tables.proofs.recognise.are_partitions.Goals as goal

pub returns-then-count-gt31 : goal.returns-then-count-gt31
returns-then-count-gt31 c = iff_false (λ r. let k = r.few in omega arith)

pub returns-then-not-are_below : goal.returns-then-not-are_below
returns-then-not-are_below c =
    partitions_not c.args.floors.now c.args.at (omega arith) refl (omega arith) c.are_below.ensures (ap not c.if-not-are_below.true)

pub returns : goal.returns
returns c =
    partitions_end c.args.floors.now c.args.at (omega arith) refl (omega arith) c.are_below.ensures (ap not c.if-not-are_below.false)
    c.are_below-2.ensures
