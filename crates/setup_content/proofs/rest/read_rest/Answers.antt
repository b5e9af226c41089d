-- `setup_content::rest::read_rest` meets its contract, by RestLaws. Assumes nothing.
use Rattle.setup.proofs.ReadIntoLaws.{read_into_back}
use Rattle.setup_content.proofs.RestLaws.{rest_refused, rest_read}
use Rattle.setup_content.proofs.rest.read_rest.Goals as goal

pub returns-in_err-after : goal.returns-in_err-after
returns-in_err-after c = read_into_back c.from_residual.result _ c.from_residual.ensures.1 (rest_refused _ _ _ _ c.in_err-after.ensures)

pub returns : goal.returns
returns c = rest_read _ _ _ _ c.in_ok-after.ensures _ c.write_counts.ensures c.read_framing.ensures
