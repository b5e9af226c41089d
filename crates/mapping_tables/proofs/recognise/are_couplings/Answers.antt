-- `mapping_tables::recognise::are_couplings` meets its contract, by RecogniseLaws, mappings's Laws and reading's PairRows. Assumes nothing.
use Rattle.mapping_tables.proofs.RecogniseLaws.{coupling_recognise_laws}
use Rattle.mapping_tables.proofs.recognise.are_couplings.Goals as goal

pub returns-then-part-count : goal.returns-then-part-count
returns-then-part-count c = search coupling_recognise_laws

pub loop-i-init : goal.loop-i-init
loop-i-init c = search coupling_recognise_laws

pub returns-then-not-is_coupling : goal.returns-then-not-is_coupling
returns-then-not-is_coupling c = search coupling_recognise_laws

pub loop-i-preserved : goal.loop-i-preserved
loop-i-preserved c = search coupling_recognise_laws

pub returns : goal.returns
returns c = search coupling_recognise_laws
