-- `take_records` meets its contract, by TakingLaws: takings one after the other are one. Assumes nothing.
use Rattle.record_progress.proofs.TakingLaws.{taken_then, turn_room}
use Rattle.record_taking.proofs.Going.{stays_then}
use Rattle.record_taking.proofs.take_records.Goals as goal

pub returns-then-not-may_go_on-clause-taken : goal.returns-then-not-may_go_on-clause-taken
returns-then-not-may_go_on-clause-taken c = taken_then c.loop-at.invariant.taken c.take_record-at.ensures.taken

pub loop-at-preserved : goal.loop-at-preserved
loop-at-preserved c =
    record {
      taken = taken_then c.loop-at.invariant.taken c.take_record-at.ensures.taken;
      kept = c.take_record-at.ensures.kept_after;
      room = turn_room c.take_record-at.ensures.within.0 (c.may_go_on.ensures c.if-not-may_go_on.false);
      lent = stays_then c.loop-at.invariant.lent c.take_record-at.ensures.lent;
    }
