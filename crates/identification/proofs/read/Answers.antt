-- `identification::read`: an accepted identity is sound. Assumes nothing.
use Rattle.bits.proofs.Answers.{value_is}
use Rattle.identification.specs.Sound.{AcceptedSound}
use Rattle.identification.proofs.SoundLaws.{accepted_parts}
use Rattle.identification.proofs.read.Goals as goal

pub returns-clause-accepted_sound : goal.returns-clause-accepted_sound
unfolding AcceptedSound
returns-clause-accepted_sound c =
    accepted_parts _ _ _ _ (value_is c.read_stream.ensures c.in_ok-stream.was) (value_is c.read_block_sizes.ensures c.in_ok-sizes.was) _ _ _
