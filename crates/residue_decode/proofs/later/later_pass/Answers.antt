-- `later::later_pass` meets its contract (proofs/LaterLaws). Assumes nothing.
use borrow.Author.Rules.{rules}
use Rattle.codeword_list.proofs.Laws.{read_back}
use Rattle.residue_decode.proofs.LaterLaws.{asked, later_fits, later_readable, later_there, later_within, later_stop, later_next}
use Rattle.residue_decode.proofs.later.later_pass.Goals as goal

pub loop-left-init : goal.loop-left-init
loop-left-init c = search asked

pub read_rows-requires : goal.read_rows-requires
read_rows-requires c =
    let g = c.loop-left.invariant in
    let there = later_there g c.loop-left-test.true c.next_class-at.ensures c.min-rows.ensures in
    (later_fits g, later_readable g, g.pass_few, there, search rules, g.readable.top_is)

pub returns-in_err-next : goal.returns-in_err-next
returns-in_err-next c =
    read_back c.from_residual.result _ c.from_residual.ensures.1 (later_stop c.loop-left.invariant c.loop-left-test.true c.next_class-at.ensures c.min-rows.ensures c.read_rows.ensures c.in_err-next.was)

pub overflow_add-place : goal.overflow_add-place
overflow_add-place c =
    let t = later_within c.loop-left.invariant c.loop-left-test.true c.next_class-at.ensures c.min-rows.ensures in
    let p = c.requires.0 in
    search rules

pub overflow_sub-left : goal.overflow_sub-left
overflow_sub-left c = search asked

pub loop-left-preserved : goal.loop-left-preserved
loop-left-preserved c = later_next c.loop-left.invariant c.loop-left-test.true c.next_class-at.ensures c.min-rows.ensures c.read_rows.ensures c.in_ok-next.was

pub loop-left-smaller : goal.loop-left-smaller
loop-left-smaller c = search asked

pub returns : goal.returns
returns c = search asked
