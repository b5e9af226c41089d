-- `floor_points::heights::final_points` meets its contract. The parts, one after the other, are the definition. Assumes nothing.
use Rattle.floor_points.proofs.Stepping.{ready_kept, made_points, made_y, made_flags}
use native.Mathlib.Omega.{arith}
use Rattle.floor_points.proofs.heights.final_points.Goals as goal

pub steps-requires : goal.steps-requires
steps-requires c =
    (ready_kept c.requires.0 (omega arith) (omega arith), c.begin_heights.ensures.1, omega arith)

pub returns : goal.returns
returns c =
    let e = made_points c.args.range c.args.x.now c.args.values.now c.args.heights.now
    c.args.flags.now _ _ c.steps.new.heights _ c.requires.0 c.begin_heights.ensures.0
    c.begin_flags.ensures c.steps.ensures in (
      made_y c.args.range c.args.x.now c.args.values.now c.steps.new.heights _ _ e
          c.clamp_all.ensures,
      made_flags c.args.range c.args.x.now c.args.values.now
          c.steps.new.heights _ e,
    )
