-- `setup_content::rest::write_counts` meets its contract, by RestLaws. Assumes nothing.
use Rattle.setup_content.proofs.RestLaws.{counts_written}
use Rattle.setup_content.proofs.rest.write_counts.Goals as goal

pub returns : goal.returns
returns c = search counts_written
