-- `record_step::audio_step::after_audio` meets its contract, by AudioLaws: without an identity or tables, and by what the audio call left. Assumes nothing.
use Rattle.record_step.proofs.AudioLaws.{no_identity, no_tables, packet_asked, answer_asked, audio_settled}
use Rattle.record_step.proofs.audio_step.after_audio.Goals as goal

pub returns-then-not-kept : goal.returns-then-not-kept
returns-then-not-kept c = no_tables _ _ _ _ _ c.requires c.if-not-kept.true c.number-then-not-kept.ensures c.refused-then-not-kept.ensures

pub returns-in_default : goal.returns-in_default
returns-in_default c = no_identity _ _ _ _ _ c.requires c.in_default.is c.number.ensures c.refused.ensures

pub read_packet-left-requires : goal.read_packet-left-requires
read_packet-left-requires c = packet_asked _ c.args.body.now _ _ _ c.requires c.in-Some.is c.if-not-kept.false

pub answered-requires : goal.answered-requires
answered-requires c = answer_asked _ _ _ _ _ c.requires c.in-Some.is c.if-not-kept.false c.read_packet-left.ensures

pub returns : goal.returns
returns c = audio_settled _ _ _ _ _ c.requires c.in-Some.is c.if-not-kept.false c.read_packet-left.ensures c.answered.ensures
