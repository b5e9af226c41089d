-- `floor_tables::recognise::is_head` meets its contract. Assumes nothing.
use native.Mathlib.Omega.{arith}
use Rattle.reading.proofs.Encodes.{iff_false}
use Rattle.floor_tables.proofs.FloorLaws.{ends_carried}
use Rattle.floor_tables.proofs.recognise.is_head.Goals as goal

pub returns-then-multiplier-lt1 : goal.returns-then-multiplier-lt1
returns-then-multiplier-lt1 c = iff_false (λ r. let k = r.carried.multiplier.low in omega arith)

pub returns-then-multiplier-gt4 : goal.returns-then-multiplier-gt4
returns-then-multiplier-gt4 c = iff_false (λ r. let k = r.carried.multiplier.high in omega arith)

pub returns-then-floors-at-gt15 : goal.returns-then-floors-at-gt15
returns-then-floors-at-gt15 c = iff_false (λ r. let k = r.carried.rangebits in omega arith)

pub returns : goal.returns
returns c =
    let count = c.is_counted.ensures in
    ((λ e. record { carried = ends_carried (record { low = omega arith; high = omega arith }) (omega arith); count = count.0 e }), (λ r. count.1 r.count))
