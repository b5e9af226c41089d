-- `floor_values::values::read_partitions` meets its contract: what is left to read, written into the list as it is, is the whole (proofs/PartitionLaws). Assumes nothing.
use Rattle.floor_values.proofs.PartitionLaws.{Progress}
use Rattle.floor_values.proofs.values.read_partitions.Given as goal

abbrev pub invariant-loop-i : goal.invariant-loop-i
invariant-loop-i l = Progress l.packet l.row.floors.now l.codebooks.books.now l.codebooks.lengths.now l.codebooks.codewords.now l.row.number l.initial.values l.initial.next l.count l.values l.next l.at l.i
