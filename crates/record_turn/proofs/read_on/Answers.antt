-- `read_on` meets its contract, by TurnLaws. Assumes nothing.
use native.Mathlib.Omega.{arith}
use lib.ListN.{take, drop}
use Rattle.record_turn.proofs.TurnLaws.{reads_room, reads_last, going_turned, read_after}
use Rattle.record_turn.proofs.read_on.Goals as goal

pub make_room-span-requires : goal.make_room-span-requires
make_room-span-requires c = reads_room c.requires.0 c.requires.1

pub returns-then-more-gt0 : goal.returns-then-more-gt0
returns-then-more-gt0 c =
    let o = c.make_room-span.ensures.order in
    let m = c.in-Ok.ensures.inside in
    let i = c.read_more.auto.input in
    let span = c.make_room-span.result in
    let h = c.make_room-span.ensures.room in
    let before-it = c.make_room-span.new.input in
    let after-it = c.read_more.new.input in
    let more = c.in-Ok.more in
    going_turned c.args.progress (take more (drop span.to after-it)) c.going-next.ensures (omega arith) (omega (arith, o)) (omega (arith, m, i)) c.requires.2
    c.requires.0.of_lines
    (read_after span.from span.to more after-it before-it o (omega (arith, h, i)) c.read_more.ensures.kept c.make_room-span.ensures.same)

pub write_last-requires : goal.write_last-requires
write_last-requires c =
    reads_last c.requires.0 c.read_more.new.input c.requires.1 c.requires.2 c.make_room-span.ensures c.read_more.ensures.kept c.read_more.auto.input c.going-next.ensures
