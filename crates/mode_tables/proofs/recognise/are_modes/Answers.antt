-- `mode_tables::recognise::are_modes` meets its contract, by RecogniseLaws and reading's PairRows. Assumes nothing.
use Rattle.mode_tables.proofs.RecogniseLaws.{recognise_laws}
use Rattle.mode_tables.proofs.recognise.are_modes.Goals as goal

pub returns-then-modes-count : goal.returns-then-modes-count
returns-then-modes-count c = search recognise_laws

pub loop-i-init : goal.loop-i-init
loop-i-init c = search recognise_laws

pub returns-then-not-is_mode : goal.returns-then-not-is_mode
returns-then-not-is_mode c = search recognise_laws

pub loop-i-preserved : goal.loop-i-preserved
loop-i-preserved c = search recognise_laws

pub returns : goal.returns
returns c = search recognise_laws
