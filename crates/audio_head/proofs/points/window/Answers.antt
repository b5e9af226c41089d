-- `audio_head::points::window` meets its contract: each point is chosen as the definition chooses it. Assumes nothing.
use Prim.Native.Nat.{◌+◌, ◌-◌, ◌*◌, ◌/◌}
use mathlib.Core.Bool.{cond}
use mathlib.Core.Path.{◌≡◌, refl, ◌∙◌}
use Rattle.audio_head.proofs.PointLaws.{chosen_first, chosen_second, window_is}
use Rattle.audio_head.proofs.points.window.Goals.{then-left, else-left, then-left-2, else-left-2, then-right, else-right}
use Rattle.audio_head.proofs.points.window.Goals as goal

pub returns-then-right-2 : goal.returns-then-right-2
returns-then-right-2 c =
    let a : c.if-left.left_start ≡ cond c.laps_short-left.result (c.args.head.blocksize / 4 - c.args.short / 4) 0 =
    elim c.if-left.branch [
      | then-left w ↦ chosen_first _ w.if-left.true (w.left_start-is ∙ w.saturating_sub-left_start.ensures)
      | else-left w ↦ chosen_second _ w.if-left.false w.left_start-is
    ]
    in
    let b : c.if-left-2.left_end ≡ cond c.laps_short-left.result (c.args.head.blocksize / 4 + c.args.short / 4) (c.args.head.blocksize / 2) =
    elim c.if-left-2.branch [
      | then-left-2 w ↦ chosen_first _ w.if-left-2.true w.left_end-is
      | else-left-2 w ↦ chosen_second _ w.if-left-2.false w.left_end-is
    ]
    in
    let d : c.if-right.right_start ≡ cond c.laps_short-right.result (c.args.head.blocksize * 3 / 4 - c.args.short / 4) (c.args.head.blocksize / 2) =
    elim c.if-right.branch [
      | then-right w ↦ chosen_first _ w.if-right.true (w.right_start-is ∙ w.saturating_sub-right_start.ensures)
      | else-right w ↦ chosen_second _ w.if-right.false w.right_start-is
    ]
    in
    window_is _ _ c.laps_short-left.ensures c.laps_short-right.ensures a b d (chosen_first _ c.if-right-2.true refl)

pub returns-else-right-2 : goal.returns-else-right-2
returns-else-right-2 c =
    let a : c.if-left.left_start ≡ cond c.laps_short-left.result (c.args.head.blocksize / 4 - c.args.short / 4) 0 =
    elim c.if-left.branch [
      | then-left w ↦ chosen_first _ w.if-left.true (w.left_start-is ∙ w.saturating_sub-left_start.ensures)
      | else-left w ↦ chosen_second _ w.if-left.false w.left_start-is
    ]
    in
    let b : c.if-left-2.left_end ≡ cond c.laps_short-left.result (c.args.head.blocksize / 4 + c.args.short / 4) (c.args.head.blocksize / 2) =
    elim c.if-left-2.branch [
      | then-left-2 w ↦ chosen_first _ w.if-left-2.true w.left_end-is
      | else-left-2 w ↦ chosen_second _ w.if-left-2.false w.left_end-is
    ]
    in
    let d : c.if-right.right_start ≡ cond c.laps_short-right.result (c.args.head.blocksize * 3 / 4 - c.args.short / 4) (c.args.head.blocksize / 2) =
    elim c.if-right.branch [
      | then-right w ↦ chosen_first _ w.if-right.true (w.right_start-is ∙ w.saturating_sub-right_start.ensures)
      | else-right w ↦ chosen_second _ w.if-right.false w.right_start-is
    ]
    in
    window_is _ _ c.laps_short-left.ensures c.laps_short-right.ensures a b d (chosen_second _ c.if-right-2.false refl)
