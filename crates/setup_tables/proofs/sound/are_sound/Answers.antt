-- `setup_tables::sound::are_sound` meets its contract. Assumes nothing.
use mathlib.Core.Bool.{not}
use mathlib.Core.Path.{ap}
use Rattle.setup_tables.proofs.Laws.{sound_room, sound_counts, sound_front, sound_end, counts_known}
use Rattle.setup.proofs.DecodeLaws.{one_content}
use borrow.Author.Rules.{rules}
use Rattle.setup_tables.proofs.sound.are_sound.Goals as goal

pub returns-then-not-have_room : goal.returns-then-not-have_room
returns-then-not-have_room c = record { variant = sound_room _ _ _ _ _ _ _ _ _ _ _ _ c.have_room.ensures (ap not c.if-not-have_room.true); one_content = one_content _ }

pub returns-then-not-are_counts : goal.returns-then-not-are_counts
returns-then-not-are_counts c = record { variant = sound_counts _ _ _ _ _ _ _ _ _ _ _ _ c.are_counts.ensures (ap not c.if-not-are_counts.true); one_content = one_content _ }

pub are_front-requires : goal.are_front-requires
are_front-requires c = (search rules, counts_known _ c.are_counts.ensures (ap not c.if-not-are_counts.false))

pub returns-then-not-are_front : goal.returns-then-not-are_front
returns-then-not-are_front c = record { variant = sound_front _ _ _ _ _ _ _ _ _ _ _ _ c.are_front.ensures (ap not c.if-not-are_front.true); one_content = one_content _ }

pub are_back-requires : goal.are_back-requires
are_back-requires c = (counts_known _ c.are_counts.ensures (ap not c.if-not-are_counts.false), search rules)

pub returns : goal.returns
returns c = record { variant = sound_end _ _ _ _ _ _ _ _ _ _ _ _ (search rules) c.have_room.ensures (ap not c.if-not-have_room.false) c.are_counts.ensures (ap not c.if-not-are_counts.false) c.are_front.ensures (ap not c.if-not-are_front.false) c.are_back.ensures; one_content = one_content _ }
