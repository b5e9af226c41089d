-- `mapping_tables::recognise::are_mappings` meets its contract, by RecogniseLaws. Assumes nothing.
use Prim.Native.Nat.{◌≤◌}
use Rattle.mapping_tables.proofs.RecogniseLaws.{Finding}
use Rattle.mapping_tables.proofs.recognise.are_mappings.Given as goal

abbrev pub invariant-loop-i : goal.invariant-loop-i
invariant-loop-i l = (l.count ≤ 64) × (l.known.channels ≤ 255) × Finding l.known l.count l.mappings l.i
