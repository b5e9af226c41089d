-- `floor_points::heights::steps` meets its contract. The loop keeps what the steps that are left give (`Progress`), and the order of the places done. Assumes
-- nothing.
use native.Mathlib.Omega.{arith}
use Rattle.floor_line.proofs.OrderLaws.{kept_linked}
use Rattle.floor_points.proofs.Stepping.{progress_begin, progress_turn, progress_end}
use Rattle.floor_points.proofs.heights.steps.Goals as goal

pub loop-i-init : goal.loop-i-init
loop-i-init c =
    (progress_begin _ _ _ _ _ c.requires.0 c.requires.1, kept_linked c.link_first_two.ensures, omega arith)

pub place-requires : goal.place-requires
place-requires c =
    let inv = c.loop-i.invariant in
    let found = c.neighbours_of-low.ensures in
    (inv.0.ready, inv.0.bounded, omega arith, found.low, found.low_earlier, found.high, found.high_earlier)

pub loop-i-preserved : goal.loop-i-preserved
loop-i-preserved c =
    let inv = c.loop-i.invariant in (
      progress_turn _ _ _ _ _ _ _ _ _ _ inv.0 (omega arith) c.place.ensures.0 c.place.ensures.1 (omega arith) (omega arith),
      c.neighbours_of-low.ensures.kept,
      omega arith,
    )

pub shape_of-after : goal.shape_of-after
shape_of-after c = omega arith

pub shape_of-heights : goal.shape_of-heights
shape_of-heights c = omega arith

pub shape_of-flags : goal.shape_of-flags
shape_of-flags c = omega arith

pub returns : goal.returns
returns c = progress_end _ _ _ _ _ _ _ _ c.loop-i.invariant.0 (omega arith)
