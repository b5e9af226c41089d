-- `residue_reading::cascade::read_cascades` meets its contract, by CascadeLaws. Assumes nothing.
use Rattle.residue_reading.proofs.CascadeLaws.{Cascading}
use Rattle.residue_reading.proofs.cascade.read_cascades.Given as goal

abbrev pub invariant-loop-i : goal.invariant-loop-i
invariant-loop-i l = Cascading l.packet l.classes l.initial.at l.numbers l.at l.i
