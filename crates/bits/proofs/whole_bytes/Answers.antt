-- `bits::whole_bytes` meets its contract. The loop's invariant: the number is the value of the bytes passed. Assumes nothing.
use Prim.Native.Nat.{◌+◌}
use mathlib.Core.Path.{◌≡◌}
use native.Mathlib.Omega.{arith}
use borrow.Author.Rules.{rules}
use Rattle.bits.specs.Field.{value_at}
use Rattle.bits.proofs.Bytes.{bytes_more, bytes_lt}
use Rattle.bits.proofs.whole_bytes.Goals as goal

pub loop-i-init : goal.loop-i-init
unfolding value_at
loop-i-init c = search rules

pub overflow_cast-number : goal.overflow_cast-number
overflow_cast-number c = omega (arith, c.type_inv.packet (c.args.first + c.loop-i.i))

pub overflow_add-number-in-loop-i : goal.overflow_add-number-in-loop-i
overflow_add-number-in-loop-i c =
    record { fits = bytes_lt _ _ _ _ (omega arith) (omega (arith, c.type_inv.packet (c.args.first + c.loop-i.i))) c.loop-i.invariant.1 }

pub loop-i-preserved : goal.loop-i-preserved
loop-i-preserved c =
    (omega arith, bytes_more _ _ _ _ (omega arith) (omega (arith, c.type_inv.packet (c.args.first + c.loop-i.i))) c.loop-i.invariant.1)

pub returns : goal.returns
returns c =
    let e : c.loop-i.i ≡ c.args.count = omega arith in
    rw e at c.loop-i.invariant.1
