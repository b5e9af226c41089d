-- `setup_content::rest::read_framing` meets its contract, by RestLaws. Assumes nothing.
use Rattle.bits.proofs.Answers.{stepped_back}
use Rattle.setup_content.proofs.RestLaws.{framing_bad, framing_set}
use Rattle.setup_content.proofs.rest.read_framing.Goals as goal

pub returns-in_err-next : goal.returns-in_err-next
returns-in_err-next c = stepped_back c.from_residual.result _ c.from_residual.ensures.1 (framing_bad _ _ c.framing.ensures c.in_err-next.was)

pub returns : goal.returns
returns c = framing_set _ _ c.framing.ensures c.in_ok-next.was
