-- `audio_judge::judge` meets its contract, by JudgeWholeLaws: one law for each way out. Assumes nothing.
use mathlib.Core.Bool.{not}
use mathlib.Core.Path.{ap}
use Rattle.audio_judge.proofs.JudgeWholeLaws.{modes_asked, judged_unsound, judged_head_refused, head_asked, judged_head_read}
use Rattle.audio_judge.proofs.judge.Goals as goal

pub returns-then-not-is_sound-clause-judged : goal.returns-then-not-is_sound-clause-judged
returns-then-not-is_sound-clause-judged c =
    judged_unsound _ _ c.requires _ _ _ _ c.is_sound.ensures (ap not c.if-not-is_sound.true) c.number.ensures

pub read_head-requires : goal.read_head-requires
read_head-requires c = modes_asked _ _ c.requires c.get-mode_count.ensures

pub judge_body-requires : goal.judge_body-requires
judge_body-requires c =
    (c.requires, head_asked _ _ c.requires c.args.packet.now c.get-mode_count.ensures _ c.read_head.ensures c.in-Ok.is)

pub returns-in-Err-clause-judged : goal.returns-in-Err-clause-judged
returns-in-Err-clause-judged c =
    judged_head_refused _ _ c.requires c.args.packet.now c.get-mode_count.ensures _ c.read_head.ensures
    c.args.tally c.args.curves.now c.args.words.now c.is_sound.ensures (ap not c.if-not-is_sound.false) c.in-Err.is c.number-in-Err.ensures

pub returns-in-Ok-clause-judged : goal.returns-in-Ok-clause-judged
returns-in-Ok-clause-judged c =
    judged_head_read _ _ c.requires c.args.packet.now c.get-mode_count.ensures _ c.read_head.ensures
    c.args.tally c.args.curves.now c.args.words.now c.is_sound.ensures (ap not c.if-not-is_sound.false) c.in-Ok.is
    c.judge_body.ensures.judged
