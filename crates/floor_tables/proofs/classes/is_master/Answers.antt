-- `floor_tables::classes::is_master` meets its contract. Assumes nothing.
use native.Mathlib.Omega.{arith}
use borrow.Author.Rules.{rules}
use borrow.Author.Tests.{eq-eqb, eqb-true, le-leb, leb-true}
use Rattle.reading.proofs.Encodes.{iff_false}
use Rattle.floor.proofs.ValidLaws.{master_most}
use Rattle.floor_tables.proofs.ClassLaws.{master_valid}
use Rattle.floor_tables.proofs.classes.is_master.Goals as goal

pub returns-then-book_count-master : goal.returns-then-book_count-master
returns-then-book_count-master c = iff_false (λ v. let k = master_most v in omega arith)

pub returns-then-subclasses-eq0 : goal.returns-then-subclasses-eq0
returns-then-subclasses-eq0 c = (
  (λ e. let none = eqb-true _ _ e in master_valid _ _ _ (search rules) (omega arith) (λ z. none) (λ n. absurd (n (omega arith)))),
  (λ v. eq-eqb _ _ (v.carried.no_master (omega arith))),
)

pub returns : goal.returns
returns c = (
  (λ e. let some = leb-true _ _ e in master_valid _ _ _ (search rules) (omega arith) (λ z. absurd (c.if-subclasses-eq0.false z)) (λ n. some)),
  (λ v. le-leb _ _ (v.carried.some_master c.if-subclasses-eq0.false)),
)
