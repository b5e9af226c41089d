-- `partition::read_rows` meets its contract: the rest of the run is read into the list as it is (proofs/RowsLaws). Assumes nothing.
use mathlib.Core.Path.{refl}
use Rattle.codeword_list.proofs.Laws.{read_back}
use Rattle.residue_pass.proofs.RowsLaws.{asked, rows_stop, rows_next}
use Rattle.residue_pass.proofs.partition.read_rows.Goals as goal

pub loop-unused-init : goal.loop-unused-init
loop-unused-init c = search asked

pub read_across_vectors-requires : goal.read_across_vectors-requires
read_across_vectors-requires c = search asked

pub returns-in_err-next : goal.returns-in_err-next
returns-in_err-next c = read_back c.from_residual.result _ c.from_residual.ensures.1 (rows_stop c.loop-unused.invariant c.loop-unused-test.true refl c.read_across_vectors.ensures c.in_err-next.was)

pub loop-unused-preserved : goal.loop-unused-preserved
loop-unused-preserved c = rows_next c.loop-unused.invariant c.loop-unused-test.true refl c.read_across_vectors.ensures c.in_ok-next.was

pub returns : goal.returns
returns c = search asked
