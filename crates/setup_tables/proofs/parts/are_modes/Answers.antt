-- `setup_tables::parts::are_modes` meets its contract. Assumes nothing.
use Rattle.setup_tables.proofs.Laws.{few_modes, modes_said}
use Rattle.setup_tables.proofs.parts.are_modes.Goals as goal

pub are_modes-requires : goal.are_modes-requires
are_modes-requires c = search few_modes

pub returns : goal.returns
returns c = modes_said _ c.get.ensures c.get-mode_count.ensures c.are_modes.ensures
