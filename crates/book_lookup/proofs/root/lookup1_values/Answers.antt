-- `book_lookup::root::lookup1_values` meets its contract, by RootLaws. Assumes nothing.
use Rattle.book_lookup.proofs.RootLaws.{halving}
use Rattle.book_lookup.proofs.root.lookup1_values.Goals as goal

pub loop-low-init : goal.loop-low-init
loop-low-init c = search halving

pub loop-low-preserved-then-power_within : goal.loop-low-preserved-then-power_within
loop-low-preserved-then-power_within c = search halving

pub loop-low-preserved : goal.loop-low-preserved
loop-low-preserved c = search halving

pub returns : goal.returns
returns c = search halving
