-- `residue_tables::recognise::are_residues` meets its contract, by RecogniseTheorem. Assumes nothing.
use Rattle.residue.specs.Inner.FromTable.{books_of}
use Rattle.residue_tables.proofs.RecogniseTheorem.{Recognising}
use Rattle.residue_tables.proofs.recognise.are_residues.Given as goal

abbrev pub invariant-loop-i : goal.invariant-loop-i
invariant-loop-i l = Recognising (books_of l.book_count l.books) l.n l.residues l.plans l.i
