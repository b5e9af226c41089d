-- `crate::checked::refused_arguments` meets its contract: a packet's first bit has the position 0. Assumes nothing.
use mathlib.Core.Path.{refl}
use Rattle.bits.specs.Inner.Cursors.{stepped}
use Rattle.setup_call.proofs.checked.refused_arguments.Goals as goal

pub returns : goal.returns
unfolding stepped
returns c = rw c.start.ensures refl
