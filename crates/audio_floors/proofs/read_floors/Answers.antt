-- `audio_floors::read_floors` meets its contract, by FloorsLaws: what is left to read, written into the bytes and the flags as they are, is the whole. Assumes nothing.
use native.Mathlib.Omega.{arith}
use mathlib.Core.Path.{refl}
use Rattle.audio_floors.proofs.FloorsLaws.{readable, product_few, start_few, go_start, go_done, part_low, part_end, rest_room, go_next, go_cut}
use Rattle.audio_floors.proofs.read_floors.Goals as goal

pub overflow_mul-end : goal.overflow_mul-end
overflow_mul-end c = record { fits = omega (arith, product_few c.args.channels c.args.half c.requires.0 c.requires.1) }

pub loop-channel-init : goal.loop-channel-init
loop-channel-init c = go_start _ _ _ _ _ _ _ _ c.requires.2

pub overflow_add-start : goal.overflow_add-start
overflow_add-start c = record { fits = omega (arith, start_few _ _ _ _ _ _ _ _ c.loop-channel.invariant (omega arith) c.requires.0 c.requires.1) }

pub slice_bounds-read_channel-end : goal.slice_bounds-read_channel-end
slice_bounds-read_channel-end c = part_low _ _ _ _ _ _ _ _ c.loop-channel.invariant (omega arith)

pub read_channel-requires : goal.read_channel-requires
read_channel-requires c = readable c.requires.3 (omega arith) c.channel_floor-number.ensures

pub slice_bounds-clear-start : goal.slice_bounds-clear-start
slice_bounds-clear-start c = (part_end _ _ _ _ _ _ _ _ c.loop-channel.invariant (omega arith) refl).0

pub slice_bounds-clear-end : goal.slice_bounds-clear-end
slice_bounds-clear-end c =
    rest_room _ _ _ _ _ _ _ _ c.loop-channel.invariant (omega arith) c.channel_floor-number.ensures c.read_channel.ensures refl

pub returns-in-Err : goal.returns-in-Err
returns-in-Err c =
    go_cut _ _ _ _ _ _ _ _ c.loop-channel.invariant (omega arith) c.channel_floor-number.ensures c.read_channel.ensures c.in-Err.is refl refl c.clear.ensures refl

pub loop-channel-preserved : goal.loop-channel-preserved
loop-channel-preserved c =
    go_next _ _ _ _ _ _ _ _ c.loop-channel.invariant (omega arith) c.channel_floor-number.ensures c.read_channel.ensures c.in-Ok.is

pub returns : goal.returns
returns c = go_done _ _ _ _ _ _ _ _ c.loop-channel.invariant (omega arith)
