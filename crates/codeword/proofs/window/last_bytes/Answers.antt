-- `codeword::window::last_bytes` meets its contract, by Windows. Assumes nothing.
use native.Mathlib.Omega.{arith}
use borrow.Author.Rules.{rules}
use mathlib.Core.Path.{◌≡◌}
use Rattle.bits.specs.Field.{value_at}
use Rattle.codeword.proofs.Windows.{bytes_more, bytes_lt}
use Rattle.codeword.proofs.window.last_bytes.Goals as goal

pub loop-i-init : goal.loop-i-init
unfolding value_at
loop-i-init c = search rules

pub overflow_add-number-in-loop-i : goal.overflow_add-number-in-loop-i
overflow_add-number-in-loop-i c = record { fits = bytes_lt _ _ _ _ (omega arith) (c.type_inv.packet _).fits c.loop-i.invariant }

pub loop-i-preserved : goal.loop-i-preserved
loop-i-preserved c = bytes_more _ _ _ _ (omega arith) (c.type_inv.packet _).fits c.loop-i.invariant

pub returns : goal.returns
returns c = let e : c.loop-i.i ≡ c.args.left = omega arith in rw e at c.loop-i.invariant
