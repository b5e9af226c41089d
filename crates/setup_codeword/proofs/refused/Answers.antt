-- `setup_codeword::refused` gives the refusal, at the packet's first bit. Assumes nothing.
use Rattle.setup_codeword.proofs.CallLaws.{refused_is}
use Rattle.setup_codeword.proofs.refused.Goals as goal

pub returns : goal.returns
returns c = refused_is _ _ c.start-place.ensures
