-- `residue_reading::read_residue` meets its contract, by ResidueLaws. Assumes nothing.
use Rattle.bits.proofs.Answers.{wrote_back}
use Rattle.residue_reading.proofs.ResidueLaws.{head_refused, cascades_refused, residue_rest, classes_few, cascades_long}
use Rattle.residue_reading.proofs.read_residue.Goals as goal

pub returns-in_err-head : goal.returns-in_err-head
returns-in_err-head c = wrote_back _ _ c.from_residual.ensures.1 (head_refused _ _ _ _ _ _ c.read_head.ensures c.in_err-head.was)

pub read_cascades-requires : goal.read_cascades-requires
read_cascades-requires c = classes_few _ _ _ c.read_head.ensures c.in_ok-head.was

pub returns-in_err-cascades : goal.returns-in_err-cascades
returns-in_err-cascades c = wrote_back _ _ c.from_residual-in_err-cascades.ensures.1 (cascades_refused _ _ _ _ _ _ c.read_head.ensures c.in_ok-head.was c.read_cascades.ensures c.in_err-cascades.was)

pub read_plan-requires : goal.read_plan-requires
read_plan-requires c = (c.requires, classes_few _ _ _ c.read_head.ensures c.in_ok-head.was, cascades_long _ _ _ c.read_cascades.ensures c.in_ok-cascades.was)

pub returns : goal.returns
returns c = residue_rest _ _ _ _ _ _ c.read_head.ensures c.in_ok-head.was c.read_cascades.ensures c.in_ok-cascades.was c.read_plan.ensures
