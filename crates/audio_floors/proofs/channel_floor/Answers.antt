-- `audio_floors::channel_floor` meets its contract, by FloorsLaws. Assumes nothing.
use Rattle.audio_floors.proofs.FloorsLaws.{submap_few, floor_number_lem}
use Rattle.audio_floors.proofs.channel_floor.Goals as goal

pub submap_floor-requires : goal.submap_floor-requires
submap_floor-requires c = submap_few _ _ _ c.requires.0 c.requires.1 _ c.requires.2 c.channel_submap-submap.ensures

pub returns : goal.returns
returns c =
    floor_number_lem _ _ _ c.requires.0 c.requires.1 _ c.requires.2 c.channel_submap-submap.ensures c.submap_floor.ensures
