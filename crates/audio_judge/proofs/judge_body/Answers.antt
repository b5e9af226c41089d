-- `audio_judge::judge_body` meets its contract, by JudgeBodyLaws: one law for each way out. Assumes nothing.
use Rattle.audio_judge.proofs.JudgeBodyLaws.{sizes_asked, mode_asked, body_asked, judged_no_room, judged_full, judged_whole, judged_cut}
use borrow.Author.Rules.{rules}
use Rattle.audio_judge.proofs.judge_body.Goals as goal

pub curve_bytes-requires : goal.curve_bytes-requires
curve_bytes-requires c = sizes_asked _ _ c.requires.0 _ _ _ c.requires.1

pub returns-then-curves-curve_bytes-clause-judged : goal.returns-then-curves-curve_bytes-clause-judged
returns-then-curves-curve_bytes-clause-judged c = judged_no_room _ _ c.requires.0 _ _ _ c.requires.1 _ _ _ c.curve_bytes.ensures c.if-curves-curve_bytes.true c.number.ensures

pub mapping-mapping-requires : goal.mapping-mapping-requires
mapping-mapping-requires c = mode_asked _ _ c.requires.0 _ _ _ c.requires.1

pub read_body-body-requires : goal.read_body-body-requires
read_body-body-requires c =
    body_asked _ _ c.requires.0 _ _ _ c.requires.1 c.curve_bytes.ensures c.mapping-mapping.ensures c.if-curves-curve_bytes.false

pub returns-in-Ok-clause-judged : goal.returns-in-Ok-clause-judged
returns-in-Ok-clause-judged c =
    judged_whole _ _ c.requires.0 _ _ _ c.requires.1 _ _ _ c.curve_bytes.ensures c.if-curves-curve_bytes.false c.mapping-mapping.ensures c.read_body-body.ensures
    c.in-Ok.is c.finish.ensures.finished

pub returns-in-Err-Cut-clause-judged : goal.returns-in-Err-Cut-clause-judged
returns-in-Err-Cut-clause-judged c =
    judged_cut _ _ c.requires.0 _ _ _ c.requires.1 _ _ _ c.curve_bytes.ensures c.if-curves-curve_bytes.false c.mapping-mapping.ensures c.read_body-body.ensures
    {p = c.in-Err-Cut.progress} c.in-Err-Cut.is (search rules) c.finish-in-Err-Cut.ensures.finished

pub returns-in-Err-Full-clause-judged : goal.returns-in-Err-Full-clause-judged
returns-in-Err-Full-clause-judged c =
    judged_full _ _ c.requires.0 _ _ _ c.requires.1 _ _ _ c.curve_bytes.ensures c.if-curves-curve_bytes.false c.mapping-mapping.ensures c.read_body-body.ensures
    (search rules) c.number-in-Err-Full.ensures
