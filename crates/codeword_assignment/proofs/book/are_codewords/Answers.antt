-- `codeword_assignment::book::are_codewords` meets its contract: as `hand_out`, with the words compared. Assumes nothing.
use Rattle.codespace.proofs.Places.{reached_length}
use Rattle.codeword_assignment.proofs.Comparing.{comparing_start, not_coded, other_length, other_word, comparing_turn, coded_full, coded_end}
use Rattle.codeword_assignment.proofs.book.are_codewords.Goals as goal

pub returns-then-lengths-codewords : goal.returns-then-lengths-codewords
returns-then-lengths-codewords c = not_coded _ _ (other_length _ _ c.if-lengths-codewords.true)

pub loop-entry-init : goal.loop-entry-init
loop-entry-init c = comparing_start _ _ _ c.if-lengths-codewords.false c.empty_space-blocks.ensures.1

pub entry_codeword-value-requires : goal.entry_codeword-value-requires
entry_codeword-value-requires c = reached_length _ _ c.loop-entry.invariant.entered.reached

pub returns-then-value-codewords : goal.returns-then-value-codewords
returns-then-value-codewords c =
    not_coded _ _ (other_word _ _ _ _ _ c.loop-entry-test.true c.loop-entry.invariant c.entry_codeword-value.ensures.0 (c.type_inv.codewords c.loop-entry.entry).fits c.if-value-codewords.true)

pub loop-entry-preserved : goal.loop-entry-preserved
loop-entry-preserved c =
    comparing_turn _ _ _ _ _ c.loop-entry-test.true c.loop-entry.invariant c.entry_codeword-value.ensures.0 (c.type_inv.codewords c.loop-entry.entry).fits c.if-value-codewords.false _ c.entry_codeword-value.ensures.1

pub is_full-requires : goal.is_full-requires
is_full-requires c = reached_length _ _ c.loop-entry.invariant.entered.reached

pub returns-then-is_full : goal.returns-then-is_full
returns-then-is_full c = coded_full _ _ _ _ c.loop-entry-test.false c.loop-entry.invariant _ c.is_full.ensures c.if-is_full.true

pub returns-else-is_full : goal.returns-else-is_full
returns-else-is_full c = coded_end _ _ _ _ c.loop-entry-test.false c.loop-entry.invariant _ _ c.is_full.ensures c.if-is_full.false c.is_lone.ensures
