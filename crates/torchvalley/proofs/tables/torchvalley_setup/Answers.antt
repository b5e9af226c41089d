-- `torchvalley::tables::torchvalley_setup` meets its contract, by SetupLaws. Assumes nothing.
use Rattle.torchvalley.proofs.SetupLaws.{small, setup_standard}
use Rattle.torchvalley.proofs.tables.torchvalley_setup.Goals as goal

pub read_setup-requires : goal.read_setup-requires
read_setup-requires c = small c.standard.ensures

pub returns : goal.returns
returns c =
    let both = setup_standard c.standard.ensures (c.read_setup.ensures.modes_value, c.read_setup.ensures.accepted_sound) in record { answer = both.0; accepted_sound = both.1; lent = c.read_setup.ensures.lent }
