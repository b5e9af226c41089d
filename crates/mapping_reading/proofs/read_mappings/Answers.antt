-- `mapping_reading::read_mappings` meets its contract: each turn reads one mapping. Assumes nothing.
use native.Mathlib.Omega.{arith}
use Prim.Native.Nat.{◌+◌, ◌*◌}
use mathlib.Core.Path.{◌≡◌, refl}
use Rattle.bits.proofs.Answers.{wrote_back}
use Rattle.bits.proofs.Steps.{loop_start, loop_next, loop_refused, loop_done}
use Rattle.mapping.specs.Layout.{mapping_width}
use Rattle.mapping_reading.proofs.read_mappings.Goals as goal

pub loop-i-init : goal.loop-i-init
loop-i-init c = loop_start _ _ _ _ _ _ _ refl

pub returns-in_err-k : goal.returns-in_err-k
returns-in_err-k c = wrote_back c.from_residual.result _ c.from_residual.ensures.1 (loop_refused _ _ _ _ _ _ _ _ c.loop-i.invariant (omega arith) c.read_mapping.ensures c.in_err-k.was _)

pub loop-i-preserved : goal.loop-i-preserved
loop-i-preserved c =
    let e : mapping_width * c.loop-i.i + mapping_width ≡ mapping_width * (c.loop-i.i + 1) = omega arith in
    rw e at (loop_next _ _ _ _ _ _ _ _ c.loop-i.invariant (omega arith) c.read_mapping.ensures c.in_ok-k.was)

pub returns : goal.returns
returns c = let e : c.loop-i.i ≡ c.args.count = omega arith in rw e at (loop_done _ _ _ _ _ _ _ _ c.loop-i.invariant (omega arith))
