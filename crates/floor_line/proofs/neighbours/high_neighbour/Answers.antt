-- `floor_line::neighbours::high_neighbour` meets its contract. The loop keeps what the rest of the search gives; the search then holds the least X above. Assumes nothing.
use Rattle.floor_line.proofs.Searching.{turned, turned_below, ended}
use Rattle.floor_line.specs.Neighbours.{takes_high}
use lib.ListN.{get_or}
use mathlib.Core.Bool.{cond}
use mathlib.Core.Path.{◌≡◌, ◌∙◌}
use Rattle.floor_line.proofs.Choosing.{high_begun, high_takes, high_not_above, high_not_less, is_high}
use Rattle.floor_line.proofs.neighbours.high_neighbour.Goals.{then-bottom-x+then-x-k, else-bottom-x, else-bottom-x-via-then-bottom-x+else-x-k, else-bottom-x-via-else-bottom-x}
use native.Mathlib.Omega.{arith}
use Rattle.floor_line.proofs.neighbours.high_neighbour.Goals as goal

pub loop-k-init : goal.loop-k-init
loop-k-init c = (omega arith, high_begun _ _)

pub loop-k-preserved : goal.loop-k-preserved
loop-k-preserved c =
    let e : c.if-bottom-x.best ≡ cond (takes_high c.args.x.now (get_or c.args.x.now c.args.i 0) c.loop-k.k c.loop-k.best) c.loop-k.k c.loop-k.best =
    elim c.if-bottom-x.branch [
      | then-bottom-x+then-x-k w ↦ w.best-is ∙ high_takes _ _ _ _ (omega arith) (omega arith)
      | else-bottom-x w ↦
          w.best-is
          ∙ elim w.else-bottom-x.branch [
            | else-bottom-x-via-then-bottom-x+else-x-k w' ↦ high_not_less _ _ _ _ (omega arith) (omega arith)
            | else-bottom-x-via-else-bottom-x w' ↦ high_not_above _ _ _ _ (omega arith)
          ]
    ]
    in
    (turned_below (takes_high _ _) _ _ _ _ e (omega arith) (omega arith), turned (takes_high _ _) _ _ _ _ _ e (omega arith) c.loop-k.invariant.1)

pub returns : goal.returns
returns c = let e = ended (takes_high _ _) _ _ _ _ (omega arith) c.loop-k.invariant.1 in (e, omega arith, λ h. is_high _ _ _ (omega arith) e h)
