-- `residue_reading::plan::read_place` meets its contract, by PlanLaws. Assumes nothing.
use Rattle.bits.proofs.Answers.{outcome_back}
use Rattle.residue_reading.proofs.PlanLaws.{place_none, place_unset, place_cut, place_book}
use Rattle.residue_reading.proofs.plan.read_place.Goals as goal

pub returns-then-bit-eq0 : goal.returns-then-bit-eq0
returns-then-bit-eq0 c = place_none _ _ _ _ c.if-bit-eq0.true

pub returns-in_err-book : goal.returns-in_err-book
returns-in_err-book c = outcome_back _ _ c.from_residual.ensures.1 (place_cut _ _ _ _ c.if-bit-eq0.false c.field.ensures c.in_err-book.was)

pub returns-then-book_count-book : goal.returns-then-book_count-book
returns-then-book_count-book c = place_unset _ _ _ _ c.if-bit-eq0.false c.field.ensures c.in_ok-book.was c.if-book_count-book.true

pub returns : goal.returns
returns c = place_book _ _ _ _ c.if-bit-eq0.false c.field.ensures c.in_ok-book.was c.if-book_count-book.false
