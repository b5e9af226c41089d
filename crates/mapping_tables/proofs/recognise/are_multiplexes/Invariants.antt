-- `mapping_tables::recognise::are_multiplexes` meets its contract, by RecogniseLaws. Assumes nothing.
use Rattle.mapping_tables.proofs.RecogniseLaws.{Numbers}
use Rattle.mapping_tables.proofs.recognise.are_multiplexes.Given as goal

abbrev pub invariant-loop-number : goal.invariant-loop-number
invariant-loop-number l = Numbers l.submaps l.count l.part l.number-index
