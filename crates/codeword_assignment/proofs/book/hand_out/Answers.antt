-- `codeword_assignment::book::hand_out` meets its contract: the entries passed have the ledger's codewords and none of them is refused. Assumes nothing.
use Rattle.codespace.proofs.Places.{reached_length}
use Rattle.codeword_assignment.proofs.Assigning.{handing_start, handing_turn, overspecified, all_written, full_accepted, lone_accepted, underspecified}
use Rattle.codeword_assignment.proofs.book.hand_out.Goals as goal

pub loop-entry-init : goal.loop-entry-init
loop-entry-init c = handing_start _ _ _ c.requires.1 c.empty_space-blocks.ensures.1

pub entry_codeword-value-requires : goal.entry_codeword-value-requires
entry_codeword-value-requires c = reached_length _ _ c.loop-entry.invariant.entered.reached

pub returns-then-value-ge-VACANT : goal.returns-then-value-ge-VACANT
returns-then-value-ge-VACANT c = (
  overspecified _ _ _ _ c.loop-entry-test.true c.loop-entry.invariant.entered c.entry_codeword-value.ensures.0 c.if-value-ge-VACANT.true,
  λ q. cc,
)

pub loop-entry-preserved : goal.loop-entry-preserved
loop-entry-preserved c =
    let e = c.entry_codeword-value.ensures in
    handing_turn _ _ _ _ _ _ c.loop-entry-test.true c.loop-entry.invariant e.0 _ e.1 c.if-value-ge-VACANT.false

pub is_full-requires : goal.is_full-requires
is_full-requires c = reached_length _ _ c.loop-entry.invariant.entered.reached

pub returns-then-is_full : goal.returns-then-is_full
returns-then-is_full c =
    let w = c.loop-entry.invariant in (
      full_accepted _ _ _ c.loop-entry-test.false w.entered _ c.is_full.ensures c.if-is_full.true,
      λ q. all_written _ _ _ _ _ c.loop-entry-test.false w,
    )

pub returns-then-is_lone : goal.returns-then-is_lone
returns-then-is_lone c =
    let w = c.loop-entry.invariant in (
      lone_accepted _ _ _ c.loop-entry-test.false w.entered _ c.is_lone.ensures c.if-is_lone.true,
      λ q. all_written _ _ _ _ _ c.loop-entry-test.false w,
    )

pub returns : goal.returns
returns c =
    let w = c.loop-entry.invariant in (
      underspecified _ _ _ c.loop-entry-test.false w.entered _ _ c.is_full.ensures c.if-is_full.false c.is_lone.ensures c.if-is_lone.false,
      λ q. cc,
    )
