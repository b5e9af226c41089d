-- `audio_channels::submap::submap_extent` meets its contract, by ExtentLaws. Assumes nothing.
use Rattle.audio_channels.proofs.ExtentLaws.{extent_is}
use borrow.Author.Rules.{rules}
use Rattle.audio_channels.proofs.extent.submap_extent.Goals as goal

pub returns : goal.returns
returns c = search (rules, extent_is)
