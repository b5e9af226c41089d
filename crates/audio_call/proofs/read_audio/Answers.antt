-- `audio_call::read_audio` meets its contract, by CallLaws. Assumes nothing.
use mathlib.Core.Bool.{not}
use mathlib.Core.Path.{ap}
use Rattle.audio_call.proofs.CallLaws.{call_unsound, packet_asked, call_sound}
use Rattle.audio_call.proofs.read_audio.Goals as goal

pub returns-then-not-are_sound : goal.returns-then-not-are_sound
returns-then-not-are_sound c =
    call_unsound _ _ _ c.are_sound.ensures.value c.args.tally c.args.packet.now c.args.curves.now c.args.words.now (ap not c.if-not-are_sound.true) c.number-refusal.ensures c.refuse.ensures

pub read_packet-requires : goal.read_packet-requires
read_packet-requires c = packet_asked _ _ _ c.are_sound.ensures.value (ap not c.if-not-are_sound.false) c.requires.0 c.requires.1

pub returns : goal.returns
returns c =
    call_sound _ _ _ c.are_sound.ensures.value (ap not c.if-not-are_sound.false) c.args.tally c.args.packet.now c.args.curves.now c.args.words.now c.read_packet.ensures
