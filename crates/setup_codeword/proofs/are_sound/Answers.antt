-- `setup_codeword::are_sound` judges the identity and then the tables (proofs/CallLaws). Assumes nothing.
use mathlib.Core.Bool.{not}
use mathlib.Core.Path.{ap}
use Rattle.setup_codeword.proofs.CallLaws.{identity_fails, few_channels, tables_tell}
use borrow.Author.Rules.{rules}
use Rattle.setup_codeword.proofs.are_sound.Goals as goal

pub returns-then-not-is_sound : goal.returns-then-not-is_sound
returns-then-not-is_sound c = let both = identity_fails c.is_sound.ensures (ap not c.if-not-is_sound.true) in record { value = both.0; tested = both.1 }

pub are_sound-requires : goal.are_sound-requires
are_sound-requires c = search (rules, few_channels)

pub returns : goal.returns
returns c = let both = tables_tell c.is_sound.ensures (ap not c.if-not-is_sound.false) c.are_sound.ensures.variant in record { value = both.0; tested = both.1 }
