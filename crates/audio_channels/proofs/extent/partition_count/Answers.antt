-- `audio_channels::extent::partition_count` meets its contract: begin and end are lowered as in the definition. Assumes nothing.
use Rattle.residue_requests.specs.Requests.{partition_count}
use Rattle.audio_channels.proofs.extent.partition_count.Goals as goal

pub returns : goal.returns
unfolding partition_count
returns c = rw (c.saturating_sub.ensures, c.min-begin.ensures, c.min-end.ensures)
