-- `floor_points::final_y` meets its contract. Where the lists fit each other, the heights lent are as many as the X; each final Y times the multiplier is a byte. Assumes nothing.
use Rattle.floor_points.proofs.FitLaws.{fit, prefix_length, ready, all_left, none_left, left_times}
use native.Mathlib.Omega.{arith}
use mathlib.Core.Path.{sym, ◌∙◌}
use Rattle.floor_points.proofs.final_y.Goals as goal

pub slice_bounds-heights-end : goal.slice_bounds-heights-end
slice_bounds-heights-end c = let w = fit _ _ _ _ _ (sym c.fitting.ensures ∙ c.if-fitting.true) in omega (arith, w.few)

pub slice_bounds-final_points-end : goal.slice_bounds-final_points-end
slice_bounds-final_points-end c = let w = fit _ _ _ _ _ (sym c.fitting.ensures ∙ c.if-fitting.true) in prefix_length _ (omega (arith, w.few))

pub final_points-requires : goal.final_points-requires
final_points-requires c =
    let w = fit _ _ _ _ _ (sym c.fitting.ensures ∙ c.if-fitting.true) in (
      ready c.args.x.now c.args.values.now c.args.y.now c.args.flags.now c.args.multiplier _ w
          c.range_of.ensures.0 c.range_of.ensures.1,
      w.ys,
      omega (arith, w.few),
    )

pub returns-then-fitting : goal.returns-then-fitting
returns-then-fitting c =
    let e = all_left c.args.x.now c.args.values.now c.args.y.now c.args.flags.now
    c.args.multiplier _ _ _ _ c.fitting.ensures c.if-fitting.true c.range_of.ensures.0
    c.final_points.ensures.0 c.final_points.ensures.1 in (e, left_times _ _ _ _ _ _ _ _ e)

pub returns : goal.returns
returns c =
    let e = none_left c.args.x.now c.args.values.now c.args.y.now c.args.flags.now
    c.args.multiplier 0 _ _ _ _ c.fitting.ensures c.if-fitting.false c.refuse.ensures in
    (e, left_times _ _ _ _ _ _ _ _ e)
