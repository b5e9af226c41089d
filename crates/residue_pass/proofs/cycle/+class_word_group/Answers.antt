-- `cycle::class_word` and `cycle::group` meet their contracts, and the cycle of the two ends: the number of partitions left falls from one class word to the
-- next (proofs/CycleLaws). Assumes nothing.
use native.Mathlib.Omega.{arith}
use borrow.Author.Rules.{rules}
use Rattle.codeword_list.proofs.Laws.{read_room, read_back}
use Rattle.residue_pass.proofs.CycleLaws.{asked, class_stop, class_then, group_stop, group_then, words_counted}
use Rattle.residue_pass.proofs.cycle.+class_word_group.Goals as goal

pub class_word-returns-then-left-eq0 : goal.class_word-returns-then-left-eq0
class_word-returns-then-left-eq0 t c = search asked

pub class_word-read_class_words-requires : goal.class_word-read_class_words-requires
class_word-read_class_words-requires t c = search asked

pub class_word-returns-in_err-words : goal.class_word-returns-in_err-words
class_word-returns-in_err-words t c =
    read_back c.from_residual.result _ c.from_residual.ensures.1 (class_stop c.requires.1 _ _ _ _ _ c.requires.0 (search rules) c.read_class_words.ensures c.in_err-words.was)

pub class_word-group-requires : goal.class_word-group-requires
class_word-group-requires t c =
    let p = c.requires in
    let x = c.read_class_words.ensures in
    let q = c.in_ok-words.was in
    (search rules, (read_room x q, p.1, words_counted _ _ _ _ _ _ _ _ x q, search rules))

pub class_word-returns : goal.class_word-returns
class_word-returns t c =
    let p = c.requires in
    class_then p.1 _ _ _ _ _ p.0 (search rules) c.read_class_words.ensures c.in_ok-words.was c.group.ensures

pub group-read_rows-requires : goal.group-read_rows-requires
group-read_rows-requires t c = search asked

pub group-returns-in_err-next : goal.group-returns-in_err-next
group-returns-in_err-next t c =
    let p = c.requires in
    read_back c.from_residual.result _ c.from_residual.ensures.1 (group_stop p.1 _ _ _ _ _ p.0 _ (search rules) _ c.read_rows.ensures c.in_err-next.was)

pub group-class_word-requires : goal.group-class_word-requires
group-class_word-requires t c =
    let p = c.requires in
    let d = p.1.digits_are in
    let e = p.1.readable.class_dimensions in
    (omega arith, (read_room c.read_rows.ensures c.in_ok-next.was, p.1))

pub group-returns : goal.group-returns
group-returns t c =
    let p = c.requires in
    group_then p.1 _ _ _ _ _ p.0 _ (search rules) _ c.read_rows.ensures c.in_ok-next.was c.class_word.ensures
