-- `residue_reading::read_residues` meets its contract, by Laws and ResidueLaws. Assumes nothing.
use Rattle.residue.specs.Inner.FromTable.{books_of}
use Rattle.residue_reading.proofs.ResidueLaws.{ReadingResidues}
use Rattle.residue_reading.proofs.read_residues.Given as goal

abbrev pub invariant-loop-i : goal.invariant-loop-i
invariant-loop-i l = ReadingResidues (books_of l.book_count l.books) l.packet l.n l.initial.at l.initial.residues l.initial.plans l.residues l.plans l.at l.i
