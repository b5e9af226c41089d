-- `floor_row::counts::class_count` meets its contract. Assumes nothing.
use Rattle.floor_row.proofs.CountLaws.{count_laws}
use Rattle.floor_row.proofs.counts.class_count.Goals as goal

pub loop-i-init : goal.loop-i-init
loop-i-init c = search count_laws

pub loop-i-preserved : goal.loop-i-preserved
loop-i-preserved c = search count_laws
