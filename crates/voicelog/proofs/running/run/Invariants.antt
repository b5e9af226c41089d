-- `running::run` is safe. The invariant: a record may be taken from the bytes that were read. Assumes nothing.
use Rattle.voicelog.proofs.RunningLaws.{Running}
use Rattle.voicelog.proofs.running.run.Given as goal

abbrev pub invariant-loop-turns : goal.invariant-loop-turns
invariant-loop-turns l = Running l.initial.tables l.at l.to l.tables l.curves l.words l.input l.lines
