-- `setup_tables::parts::are_counts` meets its contract. Assumes nothing.
use mathlib.Core.Bool.{not}
use mathlib.Core.Path.{ap}
use Rattle.setup_tables.proofs.Counts.{counts_books, counts_floors, counts_residues, counts_mappings, counts_modes, counts_end}
use Rattle.setup_tables.proofs.parts.are_counts.Goals as goal

pub returns-then-not-is_count : goal.returns-then-not-is_count
returns-then-not-is_count c = counts_books _ c.is_count.ensures (ap not c.if-not-is_count.true)

pub returns-then-not-is_count-2 : goal.returns-then-not-is_count-2
returns-then-not-is_count-2 c = counts_floors _ c.is_count-2.ensures (ap not c.if-not-is_count-2.true)

pub returns-then-not-is_count-3 : goal.returns-then-not-is_count-3
returns-then-not-is_count-3 c = counts_residues _ c.is_count-3.ensures (ap not c.if-not-is_count-3.true)

pub returns-then-not-is_count-4 : goal.returns-then-not-is_count-4
returns-then-not-is_count-4 c = counts_mappings _ c.is_count-4.ensures (ap not c.if-not-is_count-4.true)

pub returns-then-not-is_count-5 : goal.returns-then-not-is_count-5
returns-then-not-is_count-5 c = counts_modes _ c.is_count-5.ensures (ap not c.if-not-is_count-5.true)

pub returns : goal.returns
returns c =
    counts_end _ c.is_count.ensures (ap not c.if-not-is_count.false) c.is_count-2.ensures (ap not c.if-not-is_count-2.false)
    c.is_count-3.ensures (ap not c.if-not-is_count-3.false) c.is_count-4.ensures (ap not c.if-not-is_count-4.false) c.is_count-5.ensures
    (ap not c.if-not-is_count-5.false) c.zeros.ensures
