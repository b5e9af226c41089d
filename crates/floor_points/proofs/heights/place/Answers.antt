-- `floor_points::heights::place` meets its contract. The parts make one step of the definition, and the height stored stays below 131,072. Assumes nothing.
use native.Mathlib.Omega.{arith}
use Rattle.floor_points.proofs.Stepping.{step_made, set_bounded}
use Rattle.floor_points.proofs.heights.place.Goals as goal

pub predict-predicted-requires : goal.predict-predicted-requires
predict-predicted-requires c =
    (c.requires.1, c.requires.0.tall, omega arith, omega arith, omega arith)

pub unwrap-requires : goal.unwrap-requires
unwrap-requires c =
    (c.requires.0.some, c.requires.0.small, c.predict-predicted.ensures.1)

pub flag-requires : goal.flag-requires
flag-requires c =
    let e = c.requires.0.flagged in (omega (arith, e), omega (arith, e), omega (arith, e))

pub returns : goal.returns
returns c = (
  step_made c.args.range c.args.x.now c.args.values.now c.args.heights.now c.args.flags.now _
      c.args.i c.args.low c.args.high c.predict-predicted.result
      c.unwrap.result
      c.requires.3 c.requires.5 (omega arith) (omega arith)
      c.predict-predicted.ensures.0
      c.unwrap.ensures.0 c.flag.ensures,
  set_bounded _ _ _ c.requires.1 c.unwrap.ensures.1,
)
