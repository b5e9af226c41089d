-- `audio_head::blockflag_of` meets its contract: the block flag stands first in a mode's row. Assumes nothing.
use Rattle.audio_head.proofs.HeadLaws.{blockflag_is}
use Rattle.audio_head.proofs.blockflag_of.Goals as goal

pub returns : goal.returns
returns c = search (blockflag_is)
