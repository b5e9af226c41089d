-- `setup_codeword::is_set_up` compares with the first of the counts. Assumes nothing.
use Rattle.setup_codeword.proofs.CallLaws.{counted}
use Rattle.setup_codeword.proofs.is_set_up.Goals as goal

pub returns : goal.returns
returns c = counted _ c.get.ensures
