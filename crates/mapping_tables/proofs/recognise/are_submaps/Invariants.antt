-- `mapping_tables::recognise::are_submaps` meets its contract, by RecogniseLaws, mappings's Laws and reading's PairRows. Assumes nothing.
use Prim.Native.Nat.{◌≤◌}
use Rattle.mapping.proofs.Laws.{submap_pairs}
use Rattle.reading.proofs.PairRows.{Finding}
use Rattle.mapping.specs.Inner.Valid.{ValidSubmap}
use Rattle.mapping_tables.proofs.recognise.are_submaps.Given as goal

abbrev pub invariant-loop-i : goal.invariant-loop-i
invariant-loop-i l = (l.count ≤ 16) × Finding (ValidSubmap l.known) submap_pairs l.count l.part l.i
