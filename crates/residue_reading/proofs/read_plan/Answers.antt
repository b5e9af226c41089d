-- `residue_reading::read_plan` meets its contract, by ReadLaws. Assumes nothing.
use mathlib.Core.Bool.{not}
use mathlib.Core.Path.{ap}
use Rattle.bits.specs.Inner.Cursors.{position}
use Rattle.bits.proofs.Answers.{wrote_back}
use Rattle.residue.specs.Inner.Heads.{head_of}
use Rattle.residue.specs.Inner.Plans.{tables_at}
use Rattle.residue_reading.proofs.ReadLaws.{planning_start, planning_next, planning_refused, head_unfit, plan_unfit, residue_written}
use Rattle.residue_reading.proofs.read_plan.Goals as goal

pub loop-i-init : goal.loop-i-init
loop-i-init c = planning_start _ _ _ _ _

pub returns-in_err-row : goal.returns-in_err-row
returns-in_err-row c = wrote_back _ _ c.from_residual.ensures.1 (planning_refused _ _ _ _ _ c.requires.2 c.requires.1 c.loop-i.invariant c.loop-i-test.true c.read_row.ensures c.args.books.now (position c.args.place) (head_of c.args.head) (tables_at c.args.residues.now c.args.plans.now c.args.index) c.in_err-row.was _)

pub loop-i-preserved : goal.loop-i-preserved
loop-i-preserved c = planning_next _ _ _ _ _ c.requires.2 c.requires.1 c.loop-i.invariant c.loop-i-test.true c.read_row.ensures c.in_ok-row.was

pub returns-then-not-head_fits : goal.returns-then-not-head_fits
returns-then-not-head_fits c = head_unfit _ _ _ _ _ c.requires.2 c.requires.1 c.loop-i.invariant c.loop-i-test.false c.args.books.now c.args.place (head_of c.args.head) c.head_fits.ensures (ap not c.if-not-head_fits.true) (tables_at c.args.residues.now c.args.plans.now c.args.index) _

pub returns-then-not-plan_fits : goal.returns-then-not-plan_fits
returns-then-not-plan_fits c = plan_unfit _ _ _ _ _ c.requires.2 c.requires.1 c.loop-i.invariant c.loop-i-test.false c.args.books.now c.args.place (head_of c.args.head) c.head_fits.ensures (ap not c.if-not-head_fits.false) c.plan_fits.ensures (ap not c.if-not-plan_fits.true) (tables_at c.args.residues.now c.args.plans.now c.args.index) _

pub returns : goal.returns
returns c = residue_written _ _ _ _ _ c.requires.2 c.requires.1 c.loop-i.invariant c.loop-i-test.false c.args.books.now c.args.place (head_of c.args.head) c.head_fits.ensures (ap not c.if-not-head_fits.false) c.plan_fits.ensures (ap not c.if-not-plan_fits.false) c.args.residues.now c.args.plans.now c.args.index c.write_head.ensures c.write_plan.ensures
