-- `take_whole` meets its contract, by TakingLaws. Assumes nothing.
use native.Mathlib.Omega.{arith}
use Rattle.record_progress.proofs.TakingLaws.{whole_there, whole_taken_lem, whole_within}
use Rattle.record_taking.proofs.take_whole.Goals as goal

pub overflow_add-to : goal.overflow_add-to
overflow_add-to c =
    let h = whole_there c.requires.room.0 c.requires.room.1 c.requires.room.2 in let l = c.well_formed.1.1.1.0.0 in omega (arith, h, l)

pub slice_bounds-step-end : goal.slice_bounds-step-end
slice_bounds-step-end c =
    let h = whole_there c.requires.room.0 c.requires.room.1 c.requires.room.2 in omega (arith, h)

pub returns-clause-taken : goal.returns-clause-taken
returns-clause-taken c =
    whole_taken_lem c.requires.room.0 c.requires.room.1 c.requires.room.2 c.step-stepped.ensures.answer_and_stream c.put_line.ensures.out_after c.put_line.ensures.value.0

pub returns-clause-within : goal.returns-clause-within
returns-clause-within c = (whole_within c.requires.room.0 c.requires.room.1 c.requires.room.2 c.put_line.ensures.value.1, λ f. omega arith)
