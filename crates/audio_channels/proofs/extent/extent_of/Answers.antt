-- `audio_channels::extent::extent_of` meets its contract, by ExtentLaws. Assumes nothing.
use Rattle.audio_channels.proofs.ExtentLaws.{of_size}
use borrow.Author.Rules.{rules}
use Rattle.audio_channels.proofs.extent.extent_of.Goals as goal

pub returns : goal.returns
returns c = search (rules, of_size)
