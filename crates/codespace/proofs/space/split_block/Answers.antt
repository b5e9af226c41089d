-- `codespace::space::split_block` meets its contract: the places from `h` up to `from` hold the upper halves. Assumes nothing.
use Prim.Native.Nat.{ℕ, ◌≤◌, ◌-◌, ◌+◌, ◌^◌}
use mathlib.Core.Path.{◌≡◌, sym, ◌∙◌, ap}
use mathlib.Core.List.{List}
use native.Mathlib.Omega.{arith}
use borrow.Author.Rules.{rules}
use lib.ListN.{set}
use lib.Pow.{pow_mono}
use Rattle.codespace.specs.Inner.Steps.{upper_halves}
use Rattle.codespace.proofs.Steps.{bit, halves_none, halves_more}
use Rattle.codespace.proofs.space.split_block.Goals as goal

pub loop-h-init : goal.loop-h-init
loop-h-init c = (search rules, search rules, sym (halves_none _ _ _))

pub overflow_add-blocks : goal.overflow_add-blocks
overflow_add-blocks c =
    let h = c.loop-h.h in
    let e = bit (h - 1) (omega arith) in
    let p : 2 ^ (h - 1) ≤ 2 ^ 32 = pow_mono {i = h - 1} {j = 32} (omega arith) in
    omega (arith, e, p)

pub loop-h-preserved : goal.loop-h-preserved
loop-h-preserved c =
    let h = c.loop-h.h in
    let a = c.args in
    let e = bit (h - 1) (omega arith) in (
      omega arith,
      omega arith,
      ap (λ (x : ℕ). set c.loop-h.blocks (h - 1) (a.first + x)) e
          ∙ (ap (λ (l : List ℕ). set l (h - 1) (a.first + 2 ^ (h - 1))) c.loop-h.invariant.2
          ∙ sym (halves_more a.from a.first (set a.blocks.now a.from 4294967296) h (omega arith) (omega arith))),
    )

pub returns : goal.returns
returns c =
    let a = c.args in
    let e : c.loop-h.h ≡ a.height = omega arith in
    c.loop-h.invariant.2
    ∙ ap (λ (h : ℕ). upper_halves h (a.from - h) a.first (set a.blocks.now a.from 4294967296)) e
