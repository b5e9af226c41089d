-- `floor_curve::lines::draw_line` meets its contract. The loop draws the places from the left (`DrawnSoFar`), up to the lesser of x1 and the length. Assumes nothing.
use Prim.Native.Nat.{◌≤◌, max}
use Rattle.floor_curve.specs.Curve.{line_at}
use Rattle.floor_curve.proofs.DrawLaws.{DrawnSoFar}
use Rattle.floor_curve.proofs.lines.draw_line.Given as goal

abbrev pub invariant-loop-x : goal.invariant-loop-x
invariant-loop-x l = DrawnSoFar (λ i. line_at l.x0 l.y0 l.x1 l.y1 i) l.x0 l.initial.out l.out l.x × (l.x ≤ max l.x0 l.end)
