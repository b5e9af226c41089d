-- `mode_tables::recognise::are_modes` meets its contract, by RecogniseLaws and reading's PairRows. Assumes nothing.
use Rattle.reading.proofs.PairRows.{Finding}
use Rattle.mode.specs.Inner.Valid.{ValidMode}
use Prim.Native.Nat.{◌≤◌}
use Rattle.mode_tables.proofs.RecogniseLaws.{mode_pairs}
use Rattle.mode_tables.proofs.recognise.are_modes.Given as goal

abbrev pub invariant-loop-i : goal.invariant-loop-i
invariant-loop-i l = (l.count ≤ 64) × Finding (ValidMode l.mapping_count) mode_pairs l.count l.modes l.i
