-- `audio_floors::channel::draw_points` meets its contract, by ChannelLaws. Assumes nothing.
use Rattle.audio_floors.proofs.ChannelLaws.{points_drawn}
use Rattle.audio_floors.proofs.channel.draw_points.Goals as goal

pub returns : goal.returns
returns c =
    points_drawn _ _ _ _ _ _ c.requires.0 c.requires.1 c.final_y.ensures.0 c.curve.ensures.0
