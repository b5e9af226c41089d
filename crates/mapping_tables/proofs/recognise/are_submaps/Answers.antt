-- `mapping_tables::recognise::are_submaps` meets its contract, by RecogniseLaws, mappings's Laws and reading's PairRows. Assumes nothing.
use Rattle.mapping_tables.proofs.RecogniseLaws.{submap_recognise_laws}
use Rattle.mapping_tables.proofs.recognise.are_submaps.Goals as goal

pub returns-then-part-count : goal.returns-then-part-count
returns-then-part-count c = search submap_recognise_laws

pub loop-i-init : goal.loop-i-init
loop-i-init c = search submap_recognise_laws

pub returns-then-not-is_submap : goal.returns-then-not-is_submap
returns-then-not-is_submap c = search submap_recognise_laws

pub loop-i-preserved : goal.loop-i-preserved
loop-i-preserved c = search submap_recognise_laws

pub returns : goal.returns
returns c = search submap_recognise_laws
