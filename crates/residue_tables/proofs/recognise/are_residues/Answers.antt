-- `residue_tables::recognise::are_residues` meets its contract, by RecogniseTheorem. Assumes nothing.
use borrow.Author.Rules.{rules}
use Rattle.residue_tables.proofs.RecogniseTheorem.{recognising_next, recognising_failed, tail_failed, tail_judged, one_content}
use Rattle.residue_tables.proofs.recognise.are_residues.Goals as goal

pub returns-then-not-is_residue : goal.returns-then-not-is_residue
returns-then-not-is_residue c =
    record { variant = recognising_failed _ _ _ _ c.requires (search rules) (search rules) c.loop-i.invariant c.loop-i-test.true c.is_residue.ensures c.if-not-is_residue.true; one_content = one_content _ _ _ _ c.requires }

pub loop-i-preserved : goal.loop-i-preserved
loop-i-preserved c = recognising_next _ _ _ _ c.requires (search rules) (search rules) c.loop-i.invariant c.loop-i-test.true c.is_residue.ensures c.if-not-is_residue.false

pub returns-then-zeros : goal.returns-then-zeros
returns-then-zeros c =
    record { variant = tail_judged _ _ _ _ c.requires (search rules) (search rules) c.loop-i.invariant c.loop-i-test.false c.zeros.ensures c.if-zeros.true c.zeros-then-zeros.ensures; one_content = one_content _ _ _ _ c.requires }

pub returns-else-zeros : goal.returns-else-zeros
returns-else-zeros c = record { variant = tail_failed _ _ _ _ c.requires (search rules) (search rules) c.loop-i.invariant c.loop-i-test.false c.zeros.ensures c.if-zeros.false; one_content = one_content _ _ _ _ c.requires }
