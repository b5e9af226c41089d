-- `mapping_tables::recognise::are_couplings` meets its contract, by RecogniseLaws, mappings's Laws and reading's PairRows. Assumes nothing.
use Prim.Native.Nat.{◌≤◌}
use Rattle.mapping.proofs.Laws.{coupling_pairs}
use Rattle.reading.proofs.PairRows.{Finding}
use Rattle.mapping.specs.Rules.{Coupling11}
use Rattle.mapping_tables.proofs.recognise.are_couplings.Given as goal

abbrev pub invariant-loop-i : goal.invariant-loop-i
invariant-loop-i l = (l.count ≤ 256) × Finding (Coupling11 l.channels) coupling_pairs l.count l.part l.i
