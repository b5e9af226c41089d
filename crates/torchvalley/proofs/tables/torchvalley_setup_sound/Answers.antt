-- `torchvalley::tables::torchvalley_setup_sound` meets its contract, by SetupLaws. Assumes nothing.
use Rattle.torchvalley.proofs.SetupLaws.{small, sound_standard}
use Rattle.torchvalley.proofs.tables.torchvalley_setup_sound.Goals as goal

pub are_sound-requires : goal.are_sound-requires
are_sound-requires c = small c.standard.ensures

pub returns : goal.returns
returns c = let both = sound_standard c.standard.ensures (c.are_sound.ensures.value, c.are_sound.ensures.tested) in record { value = both.0; tested = both.1 }
