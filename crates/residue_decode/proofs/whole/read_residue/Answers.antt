-- `whole::read_residue` meets its contract (proofs/WholeLaws). Assumes nothing.
use borrow.Author.Rules.{rules}
use Rattle.reading.proofs.Basics.{other_than_zero}
use Rattle.codeword_list.proofs.Laws.{read_room, read_back}
use Rattle.residue_decode.proofs.WholeLaws.{residue_none, residue_stop, residue_class_words, residue_then}
use Rattle.residue_decode.proofs.whole.read_residue.Goals as goal

pub returns-then-live-eq0 : goal.returns-then-live-eq0
returns-then-live-eq0 c = search (rules, residue_none)

pub returns-in_err-next : goal.returns-in_err-next
returns-in_err-next c =
    read_back c.from_residual.result _ c.from_residual.ensures.1 (residue_stop c.requires.1 _ _ _ _ _ c.requires.0 c.first_pass.ensures c.in_err-next.was)

pub later_passes-requires : goal.later_passes-requires
later_passes-requires c =
    let p = c.requires in
    let x = c.first_pass.ensures in
    let q = c.in_ok-next.was in
    (read_room x q, p.1, other_than_zero _ (search rules), residue_class_words p.1 _ _ _ _ _ p.0 x (search rules) q)

pub returns : goal.returns
returns c =
    let p = c.requires in
    residue_then p.1 _ _ _ _ _ p.0 c.first_pass.ensures (search rules) c.in_ok-next.was c.later_passes.ensures
