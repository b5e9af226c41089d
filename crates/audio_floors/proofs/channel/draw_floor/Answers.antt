-- `audio_floors::channel::draw_floor` meets its contract, by ChannelLaws: the X list and the multiplier are those of the floor's row. Assumes nothing.
use Rattle.audio_floors.proofs.ChannelLaws.{x_end, multiplier_few, floor_drawn}
use Rattle.audio_floors.proofs.channel.draw_floor.Goals as goal

pub overflow_cast-multiplier : goal.overflow_cast-multiplier
overflow_cast-multiplier c = record { fits = multiplier_few c.requires c.multiplier-multiplier.ensures }

pub slice_bounds-draw_values-end : goal.slice_bounds-draw_values-end
slice_bounds-draw_values-end c = x_end c.requires c.x_count.ensures

pub returns : goal.returns
returns c = floor_drawn c.requires _ _ c.x_count.ensures c.multiplier-multiplier.ensures c.draw_values.ensures
