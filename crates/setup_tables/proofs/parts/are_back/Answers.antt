-- `setup_tables::parts::are_back` meets its contract. Assumes nothing.
use mathlib.Core.Bool.{not}
use mathlib.Core.Path.{ap}
use Rattle.setup_tables.proofs.Laws.{back_residues, back_mappings, back_end}
use Rattle.setup_tables.proofs.parts.are_back.Goals as goal

pub returns-then-not-are_residues : goal.returns-then-not-are_residues
returns-then-not-are_residues c = back_residues _ _ _ _ _ _ _ c.are_residues.ensures (ap not c.if-not-are_residues.true)

pub returns-then-not-are_mappings : goal.returns-then-not-are_mappings
returns-then-not-are_mappings c = back_mappings _ _ _ _ _ _ _ c.are_mappings.ensures (ap not c.if-not-are_mappings.true)

pub returns : goal.returns
returns c = back_end _ _ _ _ _ _ _ c.are_residues.ensures (ap not c.if-not-are_residues.false) c.are_mappings.ensures (ap not c.if-not-are_mappings.false) c.are_modes.ensures
