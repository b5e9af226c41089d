-- `book_lengths::entries::enter_lengths` meets its contract, by EntryLaws. Assumes nothing.
use Rattle.std.specs.Prelude.{Err}
use mathlib.Core.Path.{ap, ◌∙◌}
use Rattle.book_lengths.proofs.EntryLaws.{entered_over, entered_under, entered_short, entered_accepted}
use Rattle.book_lengths.proofs.entries.enter_lengths.Goals as goal

pub returns-in-Ok : goal.returns-in-Ok
returns-in-Ok c = let v = c.assign_codewords.ensures.value in entered_accepted _ _ _ _ v.0 c.requires c.in-Ok.is v.1

pub returns-in-Err-Overspecified : goal.returns-in-Err-Overspecified
returns-in-Err-Overspecified c =
    let i = c.in-Err-Overspecified in
    entered_over _ _ _ _ c.assign_codewords.ensures.value.0 c.requires (i.is ∙ ap Err i.field-0-is) _

pub returns-in-Err-Underspecified : goal.returns-in-Err-Underspecified
returns-in-Err-Underspecified c =
    let i = c.in-Err-Underspecified in
    entered_under _ _ _ _ c.assign_codewords.ensures.value.0 c.requires (i.is ∙ ap Err i.field-0-is) _

pub returns-in-Err-TooShort : goal.returns-in-Err-TooShort
returns-in-Err-TooShort c =
    let i = c.in-Err-TooShort in
    entered_short _ _ _ _ c.assign_codewords.ensures.value.0 c.requires (i.is ∙ ap Err i.field-0-is) _
