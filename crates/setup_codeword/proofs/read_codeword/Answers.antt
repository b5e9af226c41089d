-- `setup_codeword::read_codeword` gives what the call's definition says, one law for each answer (proofs/CallLaws). Assumes nothing.
use mathlib.Core.Bool.{not}
use mathlib.Core.Path.{ap}
use Rattle.setup_codeword.proofs.CallLaws.{call_unsound, call_not_there, call_read, call_stored}
use borrow.Author.Rules.{rules}
use Rattle.setup_codeword.proofs.read_codeword.Goals as goal

pub returns-then-not-sound : goal.returns-then-not-sound
returns-then-not-sound c = let both = call_unsound (search rules) c.are_sound-sound.ensures.tested c.are_sound-sound.ensures.value _ _ _ (ap not c.if-not-sound.true) c.refused.ensures in record { result_value = both.0; demand3 = both.1 }

pub returns-then-not-set_up : goal.returns-then-not-set_up
returns-then-not-set_up c = let both = call_not_there (search rules) c.are_sound-sound.ensures.tested c.are_sound-sound.ensures.value _ _ _ (ap not c.if-not-sound.false) c.is_set_up-set_up.ensures (ap not c.if-not-set_up.true) c.refused-then-not-set_up.ensures in record { result_value = both.0; demand3 = both.1 }

pub read_entry-requires : goal.read_entry-requires
read_entry-requires c = call_stored c.are_sound-sound.ensures.tested c.are_sound-sound.ensures.value (ap not c.if-not-sound.false) _ c.is_set_up-set_up.ensures (ap not c.if-not-set_up.false)

pub returns : goal.returns
returns c = let both = call_read (search rules) c.are_sound-sound.ensures.tested c.are_sound-sound.ensures.value _ _ _ (ap not c.if-not-sound.false) c.is_set_up-set_up.ensures (ap not c.if-not-set_up.false) (c.read_entry.ensures.result_value, c.read_entry.ensures.settled) in record { result_value = both.0; demand3 = both.1 }
