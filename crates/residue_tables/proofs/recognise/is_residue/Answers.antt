-- `residue_tables::recognise::is_residue` meets its contract, by RecogniseLaws. Assumes nothing.
use mathlib.Core.Path.{sym, ◌∙◌}
use Rattle.residue_tables.proofs.RecogniseLaws.{head_fails, set_up_fails, fits_fails, residue_judged}
use Rattle.residue_tables.proofs.recognise.is_residue.Goals.{then-places_set_up, else-places_set_up}
use Rattle.residue_tables.proofs.recognise.is_residue.Goals as goal

pub returns-then-not-is_head : goal.returns-then-not-is_head
returns-then-not-is_head c =
    head_fails c.args.book_count c.args.books.now c.args.residues.now c.args.plans.now c.args.index c.requires
    c.head-head.result c.head-head.ensures c.is_head.ensures c.if-not-is_head.true

pub returns-then-places_fit : goal.returns-then-places_fit
returns-then-places_fit c =
    elim c.if-places_set_up.branch [
      | then-places_set_up w ↦ residue_judged c.args.book_count c.args.books.now c.args.residues.now c.args.plans.now c.args.index c.requires
          c.head-head.result c.head-head.ensures c.is_head.ensures c.if-not-is_head.false c.places_set_up.ensures w.places_fit.ensures
          w.if-places_set_up.true (sym w.value-is ∙ c.if-places_fit.true) c.zeros.ensures
      | else-places_set_up w ↦ let e = sym w.value-is ∙ c.if-places_fit.true in cc
    ]

pub returns-else-places_fit : goal.returns-else-places_fit
returns-else-places_fit c =
    elim c.if-places_set_up.branch [
      | then-places_set_up w ↦ rw c.if-places_fit.false (fits_fails c.args.book_count c.args.books.now c.args.residues.now c.args.plans.now c.args.index c.requires
          c.head-head.result c.head-head.ensures c.is_head.ensures c.if-not-is_head.false c.places_set_up.ensures w.places_fit.ensures
          (sym w.value-is ∙ c.if-places_fit.false))
      | else-places_set_up w ↦ rw c.if-places_fit.false (set_up_fails c.args.book_count c.args.books.now c.args.residues.now c.args.plans.now c.args.index c.requires
          c.head-head.result c.head-head.ensures c.is_head.ensures c.if-not-is_head.false c.places_set_up.ensures w.if-places_set_up.false)
    ]
