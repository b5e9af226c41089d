-- `torchvalley::packet::torchvalley_audio_by_value` meets its contract: the call's equation, and the claims about it. Assumes nothing.
use Rattle.audio.proofs.AudioClaims.{audio_claims}
use Rattle.torchvalley.proofs.packet.torchvalley_audio_by_value.Goals as goal

pub returns : goal.returns
returns c = record { words_after = c.audio_by_value.ensures; audio_claims = audio_claims _ _ _ _ _ _ }
