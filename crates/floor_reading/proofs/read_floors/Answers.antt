-- `floor_reading::read_floors` meets its contract. The loop: what is left to read, written into the buffer as it is, is the whole (numbers/proofs/Loops). Assumes nothing.
use native.Mathlib.Omega.{arith}
use borrow.Author.Rules.{rules}
use Rattle.bits.proofs.Answers.{wrote_back}
use Rattle.numbers.proofs.Loops.{fill_start, fill_next, fill_refused, fill_done}
use Rattle.floor_reading.proofs.read_floors.Goals as goal

pub loop-i-init : goal.loop-i-init
loop-i-init c = (search rules, search rules, fill_start)

pub returns-in_err-next : goal.returns-in_err-next
returns-in_err-next c =
    wrote_back c.from_residual.result _ c.from_residual.ensures.1 (fill_refused c.loop-i.invariant.2 (omega arith) c.read_floor.ensures (omega arith) c.in_err-next.was _)

pub loop-i-preserved : goal.loop-i-preserved
loop-i-preserved c = (search rules, search rules, fill_next c.loop-i.invariant.2 (omega arith) c.read_floor.ensures (omega arith) (search rules) (omega arith) c.in_ok-next.was)

pub returns : goal.returns
returns c = fill_done c.loop-i.invariant.2 (omega arith) (omega arith)
