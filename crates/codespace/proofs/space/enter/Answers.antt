-- `codespace::space::enter` meets its contract: what the two loops find and leave is what the model finds and leaves. Assumes nothing.
use mathlib.Core.Logic.{⊎_elim}
use mathlib.Core.Path.{sym, ap, ◌∙◌}
use native.Mathlib.Omega.{arith}
use Rattle.codespace.specs.Ledger.{IsLength}
use Rattle.codespace.specs.Answers.{number}
use Rattle.codespace.proofs.Numbers.{entered_so}
use Rattle.codespace.proofs.Steps.{outside_answer, outside_blocks, refused_answer, refused_blocks, taken_answer, taken_blocks, found_low, found_block}
use Rattle.codespace.proofs.space.enter.Goals as goal

pub returns-then-length-lt1 : goal.returns-then-length-lt1
returns-then-length-lt1 c = let n : IsLength c.args.length → ⊥ = λ k. let l = k.low in let h = k.high in ⊎_elim (λ a. omega arith) (λ b. omega arith) c.then-length-lt1.either in entered_so (outside_answer _ _ n) (outside_blocks _ _ n)

pub returns-then-from-ge33 : goal.returns-then-from-ge33
returns-then-from-ge33 c =
    let k : IsLength c.args.length = record { low = omega arith; high = omega arith } in
    let n = c.requires in
    let e = c.smallest_block-from.ensures in
    entered_so (sym (ap number (refused_answer _ _ _ k n e c.if-from-ge33.true))) (refused_blocks _ _ _ k n e c.if-from-ge33.true)

pub split_block-requires : goal.split_block-requires
split_block-requires c =
    let k : IsLength c.args.length = record { low = omega arith; high = omega arith } in
    let n = c.requires in
    let e = c.smallest_block-from.ensures in
    (found_low _ _ _ k n e, omega arith, found_block _ _ _ k n e c.if-from-ge33.false)

pub returns : goal.returns
returns c =
    let k : IsLength c.args.length = record { low = omega arith; high = omega arith } in
    let n = c.requires in
    let e = c.smallest_block-from.ensures in
    entered_so (sym (ap number (taken_answer _ _ _ k n e c.if-from-ge33.false))) (c.split_block.ensures ∙ taken_blocks _ _ _ k n e c.if-from-ge33.false)
