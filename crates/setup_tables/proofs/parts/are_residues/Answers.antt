-- `setup_tables::parts::are_residues` meets its contract. Assumes nothing.
use Rattle.setup_tables.proofs.Laws.{few_residues, residues_said}
use Rattle.setup_tables.proofs.parts.are_residues.Goals as goal

pub are_residues-requires : goal.are_residues-requires
are_residues-requires c = search few_residues

pub returns : goal.returns
returns c = residues_said _ _ _ _ _ c.get-book_count.ensures c.get-residue_count.ensures c.are_residues.ensures.variant
