-- `after_records` meets its contract, by TurnLaws. Assumes nothing.
use native.Mathlib.Omega.{arith}
use mathlib.Core.List.{append-nil, []}
use mathlib.Core.Path.{sym}
use Rattle.record_turn.proofs.TurnLaws.{reads_order, going_turned}
use Rattle.record_turn.proofs.after_records.Goals as goal

pub returns : goal.returns
returns c =
    let h = c.if-turns-eq0.false in
    going_turned c.args.progress [] c.going.ensures (omega arith) (reads_order c.requires) c.requires.inside c.if-progress-ge-MOST_RECORDS.false
    c.requires.of_lines (sym (append-nil _))
