-- `audio_floors::channel::read_channel` meets its contract, by ChannelLaws: a floor that is used, unused or cut. Assumes nothing.
use mathlib.Core.Path.{sym}
use lib.Seq.{length-take-le}
use Rattle.audio_floors.proofs.ChannelLaws.{count_within, drawable, channel_used, of_cut, of_unused, values_cut, values_unused}
use Rattle.audio_floors.proofs.channel.read_channel.Goals as goal

pub slice_bounds-values-end : goal.slice_bounds-values-end
slice_bounds-values-end c = count_within _ _ _ _ _ c.requires.0 c.requires.1 c.read_values.ensures.floor_values c.x_count-n.ensures c.read_values.auto.values

pub slice_bounds-draw_floor-end : goal.slice_bounds-draw_floor-end
slice_bounds-draw_floor-end c =
    sym
    (length-take-le _ _ (count_within _ _ _ _ _ c.requires.0 c.requires.1 c.read_values.ensures.floor_values c.x_count-n.ensures c.read_values.auto.values))

pub draw_floor-requires : goal.draw_floor-requires
draw_floor-requires c =
    drawable _ _ _ _ _ c.requires.0 c.requires.1 c.read_values.ensures.floor_values _ _ _ c.read_values.ensures.wrote c.in-Ok-true-default.is c.in-Ok-true-default.field-0-0-test c.x_count-n.ensures

pub returns-in-Ok-true-default : goal.returns-in-Ok-true-default
returns-in-Ok-true-default c =
    channel_used _ _ _ _ _ c.requires.0 c.requires.1 c.read_values.ensures.floor_values _ _ _ c.read_values.ensures.wrote
    c.in-Ok-true-default.is c.in-Ok-true-default.field-0-0-test c.x_count-n.ensures c.draw_floor.ensures

pub returns-in-Ok-false-default : goal.returns-in-Ok-false-default
returns-in-Ok-false-default c = of_unused _ _ _ _ _ (values_unused _ _ _ _ _ _ c.read_values.ensures.wrote c.in-Ok-false-default.is c.in-Ok-false-default.field-0-0-test) c.clear.ensures

pub returns-in-Err : goal.returns-in-Err
returns-in-Err c = of_cut _ _ _ _ _ (values_cut _ _ _ _ _ _ c.read_values.ensures.wrote c.in-Err.is) c.clear-in-Err.ensures
