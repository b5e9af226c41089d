-- `floor_curve::curve` meets its contract. The curve, or zeros; every value of the curve is a byte. Assumes nothing.
use Rattle.floor_curve.proofs.CurveLaws.{fit_points, all_left, none_left, flat_zeros, curve_bytes}
use Rattle.floor_curve.proofs.curve.Goals as goal

pub draw_points-requires : goal.draw_points-requires
draw_points-requires c = fit_points c.args.x.now c.args.y.now c.args.flags.now _ c.fitting.ensures c.if-fitting.true

pub returns-then-fitting : goal.returns-then-fitting
returns-then-fitting c = (
  all_left c.args.x.now c.args.y.now c.args.flags.now _ _ _ _ c.fitting.ensures c.if-fitting.true
      c.draw_points.ensures,
  curve_bytes _ _ _ _,
)

pub returns : goal.returns
returns c = (
  none_left c.args.x.now c.args.y.now c.args.flags.now c.args.multiplier _ _ _
      c.fitting.ensures c.if-fitting.false (flat_zeros _ _ c.draw_flat.ensures),
  curve_bytes _ _ _ _,
)
