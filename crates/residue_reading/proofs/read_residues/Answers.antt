-- `residue_reading::read_residues` meets its contract, by ResidueLaws. Assumes nothing.
use borrow.Author.Rules.{rules}
use Rattle.residue.proofs.Laws.{accepted_valid}
use Rattle.bits.proofs.Answers.{wrote_back}
use Rattle.residue_reading.proofs.ResidueLaws.{residues_laws, residues_refused, residues_next}
use Rattle.residue_reading.proofs.read_residues.Goals as goal

pub loop-i-init : goal.loop-i-init
loop-i-init c = search residues_laws

pub loop-i-preserved : goal.loop-i-preserved
loop-i-preserved c = residues_next _ _ _ _ _ _ c.loop-i.invariant c.loop-i-test.true c.read_residue.ensures c.in_ok-at.was (search rules) (search rules)

pub returns-in_err-at : goal.returns-in_err-at
returns-in_err-at c = record { wrote = wrote_back _ _ c.from_residual.ensures.1 (residues_refused _ _ _ _ _ _ c.loop-i.invariant c.loop-i-test.true c.read_residue.ensures c.in_err-at.was _); accepted_valid = accepted_valid _ _ _ _ }

pub returns : goal.returns
returns c = record { wrote = search residues_laws; accepted_valid = accepted_valid _ _ _ _ }
