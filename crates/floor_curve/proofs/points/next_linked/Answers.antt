-- `floor_curve::points::next_linked` meets its contract. The loop keeps that no flagged point lies between l and the place that it stands at. Assumes nothing.
use native.Mathlib.Omega.{arith}
use Rattle.floor_curve.proofs.LinkedLaws.{passed_begin, passed_inside, passed_less, passed_turn, passed_found, passed_end}
use Rattle.floor_curve.proofs.points.next_linked.Goals as goal

pub loop-p-init : goal.loop-p-init
loop-p-init c = passed_begin _ _ _ (omega arith)

pub bounds-flags-p : goal.bounds-flags-p
bounds-flags-p c =
    omega (arith, passed_inside _ _ _ c.requires.0 _ _ c.loop-p.invariant (omega arith))

pub returns-then-flags-p-ne0 : goal.returns-then-flags-p-ne0
returns-then-flags-p-ne0 c =
    let o = c.requires.0 in
    let w = c.loop-p.invariant in
    (passed_found _ _ _ o _ _ w (λ e. omega arith) (λ e. omega arith), passed_inside _ _ _ o _ _ w (λ e. omega arith))

pub loop-p-smaller : goal.loop-p-smaller
loop-p-smaller c =
    passed_less _ _ _ c.requires.0 _ _ c.loop-p.invariant (λ e. omega arith)

pub loop-p-preserved : goal.loop-p-preserved
loop-p-preserved c =
    passed_turn _ _ _ c.requires.0 _ _ c.loop-p.invariant (λ e. omega arith) (omega arith)

pub returns : goal.returns
returns c =
    (passed_end _ _ _ c.requires.0 _ _ c.loop-p.invariant (omega arith), tt)
