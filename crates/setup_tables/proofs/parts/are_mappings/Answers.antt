-- `setup_tables::parts::are_mappings` meets its contract. Assumes nothing.
use Rattle.setup_tables.proofs.Laws.{few_mappings, mappings_said}
use Rattle.setup_tables.proofs.parts.are_mappings.Goals as goal

pub are_mappings-requires : goal.are_mappings-requires
are_mappings-requires c = search few_mappings

pub returns : goal.returns
returns c = mappings_said _ _ c.get.ensures c.get-2.ensures c.get-mapping_count.ensures c.are_mappings.ensures
