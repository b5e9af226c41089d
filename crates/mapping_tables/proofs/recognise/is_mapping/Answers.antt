-- `mapping_tables::recognise::is_mapping` meets its contract, by RecogniseLaws: one law for each way out. Assumes nothing.
use native.Mathlib.Omega.{arith}
use mathlib.Core.Path.{sym, ◌∙◌}
use Rattle.reading.proofs.Least.{true_not_false}
use Rattle.mapping_tables.proofs.RecogniseLaws.{count_most, steps_many, submaps_none, submaps_many, place_used, couplings_wrong, multiplex_wrong, row_right}
use Rattle.mapping_tables.proofs.recognise.is_mapping.Goals as goal
use Rattle.mapping_tables.proofs.recognise.is_mapping.Goals.{then-steps-gt256-via-then-steps-gt256, then-steps-gt256-via-else-steps-gt256+then-submaps-lt1, then-steps-gt256-via-else-steps-gt256+else-submaps-lt1+then-submaps-gt16, then-steps-gt256-via-else-steps-gt256+else-submaps-lt1+else-submaps-gt16+then-row-ne0, then-are_couplings, else-are_couplings}

pub returns-then-steps-gt256 : goal.returns-then-steps-gt256
returns-then-steps-gt256 c =
    elim c.then-steps-gt256.branch [
      | then-steps-gt256-via-then-steps-gt256 w ↦ steps_many _ _ c.requires.0 c.requires.1 c.two_places-steps.ensures w.if-steps-gt256.true
      | then-steps-gt256-via-else-steps-gt256+then-submaps-lt1 w ↦ submaps_none _ _ c.requires.0 c.requires.1 c.two_places-steps.ensures w.if-submaps-lt1.true
      | then-steps-gt256-via-else-steps-gt256+else-submaps-lt1+then-submaps-gt16 w ↦ submaps_many _ _ c.requires.0 c.requires.1 c.two_places-steps.ensures w.if-submaps-gt16.true
      | then-steps-gt256-via-else-steps-gt256+else-submaps-lt1+else-submaps-gt16+then-row-ne0 w ↦ place_used _ _ c.requires.0 c.requires.1 c.two_places-steps.ensures w.if-row-ne0.true
    ]

pub are_multiplexes-requires : goal.are_multiplexes-requires
are_multiplexes-requires c = count_most _ _ c.multiplex_count.ensures c.if-submaps-lt1.false c.if-submaps-gt16.false c.requires.1

pub returns-then-are_multiplexes : goal.returns-then-are_multiplexes
returns-then-are_multiplexes c =
    elim c.if-are_couplings.branch [
      | then-are_couplings w ↦
          row_right _ _ c.requires.0 c.requires.1 c.two_places-steps.ensures c.are_couplings.ensures w.multiplex_count.ensures w.are_multiplexes.ensures (omega arith) (omega arith) (omega arith)
          c.if-row-ne0.false w.if-are_couplings.true (sym w.value-is ∙ c.if-are_multiplexes.true) c.are_submaps.ensures
      | else-are_couplings w ↦ absurd (true_not_false _ c.if-are_multiplexes.true (w.value-is ∙ w.if-are_couplings.false))
    ]

pub returns-else-are_multiplexes : goal.returns-else-are_multiplexes
returns-else-are_multiplexes c =
    elim c.if-are_couplings.branch [
      | then-are_couplings w ↦
          rw c.if-are_multiplexes.false (multiplex_wrong _ _ c.requires.0 c.requires.1 c.two_places-steps.ensures c.are_couplings.ensures w.multiplex_count.ensures w.are_multiplexes.ensures
          (sym w.value-is ∙ c.if-are_multiplexes.false))
      | else-are_couplings w ↦ rw c.if-are_multiplexes.false (couplings_wrong _ _ c.requires.0 c.requires.1 c.two_places-steps.ensures c.are_couplings.ensures w.if-are_couplings.false)
    ]
