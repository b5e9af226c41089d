-- `floor_partition::partition::read_chosen` meets its contract: what is left to read, written into the list as it is, is the whole (proofs/ChosenLaws). Assumes nothing.
use Rattle.floor_partition.proofs.ChosenLaws.{Choosing}
use Rattle.floor_partition.proofs.partition.read_chosen.Given as goal

abbrev pub invariant-loop-i : goal.invariant-loop-i
invariant-loop-i l = Choosing l.packet l.row.floors.now l.codebooks.books.now l.codebooks.lengths.now l.codebooks.codewords.now l.row.number l.class l.class_value l.initial.values l.at l.initial.next l.count l.base l.values l.next l.left l.i
