-- `header::common_header` meets its contract. The loop's invariant: what is left of the opening, read at the cursor, gives the same as the whole. Assumes
-- nothing.
use mathlib.Core.Path.{refl}
use native.Mathlib.Omega.{arith}
use Rattle.header.specs.Header.{common_header}
use Rattle.bits.proofs.Answers.{stepped_back}
use Rattle.header.proofs.Laws.{byte_missing, byte_wrong, byte_found, complete}
use Rattle.header.proofs.common_header.Goals as goal

pub loop-i-init : goal.loop-i-init
loop-i-init c = (omega arith, refl, rw c.start-at.ensures)

pub returns-in_err-byte : goal.returns-in_err-byte
unfolding common_header
returns-in_err-byte c =
    let l = c.loop-i in
    stepped_back c.from_residual.result _ c.from_residual.ensures.1 (byte_missing _ _ l.i l.at _ l.invariant.2 (omega arith) c.field.result c.field.ensures c.in_err-byte.was)

pub returns-then-byte-expected : goal.returns-then-byte-expected
unfolding common_header
returns-then-byte-expected c =
    let l = c.loop-i in
    byte_wrong _ _ l.i l.at _ l.invariant.2 (omega arith) c.field.result c.field.ensures c.in_ok-byte.was refl c.if-byte-expected.true

pub loop-i-preserved : goal.loop-i-preserved
loop-i-preserved c =
    let l = c.loop-i in
    let found = byte_found _ _ l.i l.at _ l.invariant.2 (omega arith) c.field.result c.field.ensures c.in_ok-byte.was refl c.if-byte-expected.false in
    (omega arith, refl, found)

pub returns : goal.returns
unfolding common_header
returns c = let l = c.loop-i in complete _ _ l.i l.at _ l.invariant.2 (omega arith)
