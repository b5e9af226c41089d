-- `floor_tables::recognise::is_counted` meets its contract. Assumes nothing.
use mathlib.Core.Path.{refl}
use native.Mathlib.Omega.{arith}
use Rattle.reading.proofs.Encodes.{iff_false}
use Rattle.floor_tables.proofs.FloorLaws.{count_most, count_end}
use Rattle.floor_tables.proofs.recognise.is_counted.Goals as goal

pub returns-then-values-gt65 : goal.returns-then-values-gt65
returns-then-values-gt65 c = iff_false (λ r. let k = count_most r in omega arith)

pub returns-then-values-lt2 : goal.returns-then-values-lt2
returns-then-values-lt2 c = iff_false (λ r. let k = r.values in omega arith)

pub returns : goal.returns
returns c = count_end c.args.floors.now c.args.at refl (omega arith) (omega arith) refl c.value_count-read.ensures
