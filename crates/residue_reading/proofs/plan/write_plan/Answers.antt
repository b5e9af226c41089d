-- `residue_reading::plan::write_plan` meets its contract, by WritingLaws. Assumes nothing.
use Rattle.residue_reading.proofs.WritingLaws.{writing_laws}
use Rattle.residue_reading.proofs.plan.write_plan.Goals as goal

pub loop-i-init : goal.loop-i-init
loop-i-init c = search writing_laws

pub loop-i-preserved : goal.loop-i-preserved
loop-i-preserved c = search writing_laws
