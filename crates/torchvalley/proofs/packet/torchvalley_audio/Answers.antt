-- `torchvalley::packet::torchvalley_audio` meets its contract: the equation of the call with the tally by value, and the claims about it. Assumes nothing.
use Rattle.audio.proofs.AudioClaims.{audio_claims}
use Rattle.torchvalley.proofs.packet.torchvalley_audio.Goals as goal

pub returns-clause-audio_claims : goal.returns-clause-audio_claims
returns-clause-audio_claims c = audio_claims _ _ _ _ _ _
