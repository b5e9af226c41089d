-- `audio_call::read_packet` meets its contract, by CallLaws. Assumes nothing.
use Rattle.audio_call.proofs.CallLaws.{settle_asked, packet_left}
use Rattle.audio_call.proofs.read_packet.Goals as goal

pub settle-requires : goal.settle-requires
settle-requires c =
    settle_asked _ _ c.requires.0 c.args.tally c.args.packet.now c.args.curves.now c.args.words.now c.judge-judged.ensures.judged

pub returns : goal.returns
returns c =
    packet_left _ _ c.requires.0 c.args.tally c.args.packet.now c.args.curves.now c.args.words.now c.judge-judged.ensures.judged c.requires.1 c.requires.2 c.settle.ensures
