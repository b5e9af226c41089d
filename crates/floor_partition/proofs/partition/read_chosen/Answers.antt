-- `floor_partition::partition::read_chosen` meets its contract: what is left to read, written into the list as it is, is the whole (proofs/ChosenLaws). Assumes nothing.
use native.Mathlib.Omega.{arith}
use mathlib.Core.Path.{refl}
use Rattle.bits.proofs.Answers.{wrote_back}
use Rattle.floor_partition.proofs.ChosenLaws.{subclasses_few, choose_start, base_low, digit_few, place_stored, choose_refused, choose_next, choose_done}
use borrow.Author.Rules.{rules}
use Rattle.floor_partition.proofs.partition.read_chosen.Goals as goal

pub class_dimensions-count-requires : goal.class_dimensions-count-requires
class_dimensions-count-requires c = c.requires.1.class_few

pub class_subclasses-requires : goal.class_subclasses-requires
class_subclasses-requires c = c.requires.1.class_few

pub overflow_shl-base : goal.overflow_shl-base
overflow_shl-base c = let few = subclasses_few c.requires.1 c.class_subclasses.ensures in omega arith

pub loop-i-init : goal.loop-i-init
loop-i-init c = choose_start c.requires.0 c.requires.1 c.class_dimensions-count.ensures c.class_subclasses.ensures refl

pub nonzero_rem-left : goal.nonzero_rem-left
nonzero_rem-left c = base_low c.loop-i.invariant

pub subclass_book-place-requires : goal.subclass_book-place-requires
subclass_book-place-requires c = (c.loop-i.invariant.stored.class_few, digit_few c.loop-i.invariant refl)

pub read_value-requires : goal.read_value-requires
read_value-requires c = place_stored c.loop-i.invariant refl c.subclass_book-place.ensures

pub returns-in_err-next : goal.returns-in_err-next
returns-in_err-next c =
    wrote_back c.from_residual.result _ c.from_residual.ensures.1
    (choose_refused c.loop-i.invariant refl c.subclass_book-place.ensures (omega arith) c.read_value.ensures c.in_err-next.was _)

pub nonzero_div-left : goal.nonzero_div-left
nonzero_div-left c = base_low c.loop-i.invariant

pub loop-i-preserved : goal.loop-i-preserved
loop-i-preserved c = choose_next c.loop-i.invariant refl c.subclass_book-place.ensures (omega arith) c.read_value.ensures c.in_ok-next.was (search rules)

pub returns : goal.returns
returns c = choose_done c.loop-i.invariant (omega arith) (omega arith)
