-- `codeword::unused::four_lengths` meets its contract, by Windows. Assumes nothing.
use native.Mathlib.Omega.{arith}
use mathlib.Core.Path.{◌≡◌, refl}
use Rattle.bits.specs.Field.{value_at}
use Rattle.codeword.proofs.Windows.{bytes_more, bytes_lt, zeros_none, zeros_more}
use Rattle.codeword.proofs.unused.four_lengths.Goals as goal

pub loop-i-init : goal.loop-i-init
unfolding value_at
loop-i-init c = (refl, λ z. zeros_none _ _)

pub overflow_add-number-in-loop-i : goal.overflow_add-number-in-loop-i
overflow_add-number-in-loop-i c = record { fits = bytes_lt _ _ _ _ (omega arith) (c.type_inv.lengths _).fits c.loop-i.invariant.0 }

pub loop-i-preserved : goal.loop-i-preserved
loop-i-preserved c =
    let l = (c.type_inv.lengths _).fits in
    let i = c.loop-i.invariant in
    (bytes_more _ _ _ _ (omega arith) l i.0, zeros_more _ _ _ _ (omega arith) l i.1)

pub returns : goal.returns
returns c = let e : c.loop-i.i ≡ 4 = omega arith in rw e at c.loop-i.invariant.1
