-- `residue_reading::head::read_head` meets its contract, by HeadLaws. Assumes nothing.
use borrow.Author.Rules.{rules}
use Rattle.residue_reading.proofs.HeadLaws.{head_back, type_large, type_cut, begin_cut, end_cut, head_rest, size_fits, classes_fit, size_cut, classes_cut, classbook_cut, classbook_unset, head_whole}
use Rattle.residue_reading.proofs.head.read_head.Goals as goal

pub returns-in_err-kind : goal.returns-in_err-kind
returns-in_err-kind c = head_back _ _ c.from_residual.ensures.1 (type_cut _ _ _ c.field.ensures c.in_err-kind.was)

pub returns-then-kind-gt2 : goal.returns-then-kind-gt2
returns-then-kind-gt2 c = type_large _ _ _ c.field.ensures c.in_ok-kind.was c.if-kind-gt2.true

pub returns-in_err-begin : goal.returns-in_err-begin
returns-in_err-begin c = head_back _ _ c.from_residual-in_err-begin.ensures.1 (begin_cut _ _ _ c.field.ensures c.in_ok-kind.was c.if-kind-gt2.false c.field-2.ensures c.in_err-begin.was)

pub returns-in_err-end : goal.returns-in_err-end
returns-in_err-end c = head_back _ _ c.from_residual-in_err-end.ensures.1 (end_cut _ _ _ c.field.ensures c.in_ok-kind.was c.if-kind-gt2.false c.field-2.ensures c.in_ok-begin.was c.field-3.ensures c.in_err-end.was)

pub returns-in_err-size : goal.returns-in_err-size
returns-in_err-size c = head_back _ _ c.from_residual-in_err-size.ensures.1 (head_rest _ _ _ c.field.ensures c.in_ok-kind.was c.if-kind-gt2.false c.field-2.ensures c.in_ok-begin.was c.field-3.ensures c.in_ok-end.was _ (size_cut _ _ _ _ _ _ c.field-4.ensures c.in_err-size.was))

pub returns-in_err-classes : goal.returns-in_err-classes
returns-in_err-classes c = head_back _ _ c.from_residual-in_err-classes.ensures.1 (head_rest _ _ _ c.field.ensures c.in_ok-kind.was c.if-kind-gt2.false c.field-2.ensures c.in_ok-begin.was c.field-3.ensures c.in_ok-end.was _ (classes_cut _ _ _ _ _ _ c.field-4.ensures c.in_ok-size.was c.field-5.ensures c.in_err-classes.was))

pub returns-in_err-classbook : goal.returns-in_err-classbook
returns-in_err-classbook c = head_back _ _ c.from_residual-in_err-classbook.ensures.1 (head_rest _ _ _ c.field.ensures c.in_ok-kind.was c.if-kind-gt2.false c.field-2.ensures c.in_ok-begin.was c.field-3.ensures c.in_ok-end.was _ (classbook_cut _ _ _ _ _ _ c.field-4.ensures c.in_ok-size.was c.field-5.ensures c.in_ok-classes.was c.field-6.ensures c.in_err-classbook.was))

pub returns-then-book_count-classbook : goal.returns-then-book_count-classbook
returns-then-book_count-classbook c = head_rest _ _ _ c.field.ensures c.in_ok-kind.was c.if-kind-gt2.false c.field-2.ensures c.in_ok-begin.was c.field-3.ensures c.in_ok-end.was _ (classbook_unset _ _ _ _ _ _ c.field-4.ensures c.in_ok-size.was c.field-5.ensures c.in_ok-classes.was c.field-6.ensures c.in_ok-classbook.was c.if-book_count-classbook.true)

pub overflow_add-head : goal.overflow_add-head
overflow_add-head c = let fits = size_fits _ _ c.field-4.ensures c.in_ok-size.was in search rules

pub overflow_add-head-2 : goal.overflow_add-head-2
overflow_add-head-2 c = let fits = classes_fit _ _ c.field-5.ensures c.in_ok-classes.was in search rules

pub returns : goal.returns
returns c = head_rest _ _ _ c.field.ensures c.in_ok-kind.was c.if-kind-gt2.false c.field-2.ensures c.in_ok-begin.was c.field-3.ensures c.in_ok-end.was _ (head_whole _ _ _ _ _ _ c.field-4.ensures c.in_ok-size.was c.field-5.ensures c.in_ok-classes.was c.field-6.ensures c.in_ok-classbook.was c.if-book_count-classbook.false)
