-- `floor_line::neighbours::low_neighbour` meets its contract. The loop keeps what the rest of the search gives; the search then holds the greatest X below. Assumes nothing.
use Rattle.floor_line.proofs.Searching.{turned, turned_below, ended}
use Rattle.floor_line.specs.Neighbours.{takes_low}
use lib.ListN.{get_or}
use mathlib.Core.Bool.{cond}
use mathlib.Core.Path.{◌≡◌, ◌∙◌}
use Rattle.floor_line.proofs.Choosing.{low_begun, low_takes, low_not_below, low_not_greater, is_low}
use Rattle.floor_line.proofs.neighbours.low_neighbour.Goals.{then-x-j+then-x-best, else-x-j, else-x-j-via-then-x-j+else-x-best, else-x-j-via-else-x-j}
use native.Mathlib.Omega.{arith}
use Rattle.floor_line.proofs.neighbours.low_neighbour.Goals as goal

pub loop-j-init : goal.loop-j-init
loop-j-init c = (omega arith, low_begun _ _)

pub loop-j-preserved : goal.loop-j-preserved
loop-j-preserved c =
    let e : c.if-x-j.best ≡ cond (takes_low c.args.x.now (get_or c.args.x.now c.args.i 0) c.loop-j.j c.loop-j.best) c.loop-j.j c.loop-j.best =
    elim c.if-x-j.branch [
      | then-x-j+then-x-best w ↦ w.best-is ∙ low_takes _ _ _ _ (omega arith) (omega arith)
      | else-x-j w ↦
          w.best-is
          ∙ elim w.else-x-j.branch [
            | else-x-j-via-then-x-j+else-x-best w' ↦ low_not_greater _ _ _ _ (omega arith) (omega arith)
            | else-x-j-via-else-x-j w' ↦ low_not_below _ _ _ _ (omega arith)
          ]
    ]
    in
    (turned_below (takes_low _ _) _ _ _ _ e (omega arith) (omega arith), turned (takes_low _ _) _ _ _ _ _ e (omega arith) c.loop-j.invariant.1)

pub returns : goal.returns
returns c = let e = ended (takes_low _ _) _ _ _ _ (omega arith) c.loop-j.invariant.1 in (e, omega arith, λ h. is_low _ _ _ (omega arith) e h)
