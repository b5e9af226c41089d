-- `floor_points::heights::steps` meets its contract. The loop keeps what the steps that are left give (`Progress`), and the order of the places done. Assumes
-- nothing.
use mathlib.Core.Path.{◌≡◌}
use lib.ListN.{length}
use Rattle.floor_line.specs.Inner.Order.{Kept}
use Rattle.floor_points.proofs.Stepping.{Progress}
use Rattle.floor_points.proofs.heights.steps.Given as goal

abbrev pub invariant-loop-i : goal.invariant-loop-i
invariant-loop-i l =
    Progress l.x l.values l.range l.initial.heights l.initial.flags l.heights l.flags l.i × Kept l.x l.after l.i × (length l.after ≡ length l.initial.after)
