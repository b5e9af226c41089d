-- `floor_curve::lines::draw_flat` meets its contract. The loop draws the places from the left (`DrawnSoFar`), up to the length. Assumes nothing.
use Rattle.floor_curve.proofs.DrawLaws.{DrawnSoFar}
use Rattle.floor_curve.proofs.lines.draw_flat.Given as goal

abbrev pub invariant-loop-x : goal.invariant-loop-x
invariant-loop-x l = DrawnSoFar (λ _. l.y) l.from l.initial.out l.out l.x
