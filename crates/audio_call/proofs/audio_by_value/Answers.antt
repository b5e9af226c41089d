-- `audio_call::audio_by_value` meets its contract, by CallLaws. Assumes nothing.
use Rattle.audio_call.proofs.CallLaws.{limits_asked, call_standard}
use Rattle.audio_call.proofs.audio_by_value.Goals as goal

pub read_audio-requires : goal.read_audio-requires
read_audio-requires c = limits_asked c.standard-limits.ensures

pub returns : goal.returns
returns c =
    call_standard c.standard-limits.ensures _ _ _ _ _ c.read_audio.ensures
