-- `record_lines::words::put_words` meets its contract: one law for each answer. Assumes nothing.
use Rattle.record_lines.proofs.Laws.{identified, set_up_is, audio_read_lem, refused, unknown, too_long}
use Rattle.record_lines.specs.Text.{text, codes_from}
use borrow.Author.Rules.{rules}
use Rattle.record_lines.proofs.words.put_words.Goals as goal

pub returns-in-Identified : goal.returns-in-Identified
returns-in-Identified c = search (rules, identified)

pub returns-in-SetUp : goal.returns-in-SetUp
returns-in-SetUp c = search (rules, set_up_is)

pub returns-in-AudioRead : goal.returns-in-AudioRead
returns-in-AudioRead c = search (rules, audio_read_lem)

pub returns-in-Refused : goal.returns-in-Refused
unfolding text codes_from
returns-in-Refused c = search (rules, refused)

pub returns-in-Unknown : goal.returns-in-Unknown
unfolding text codes_from
returns-in-Unknown c = search (rules, unknown)

pub returns-in-TooLong : goal.returns-in-TooLong
unfolding text codes_from
returns-in-TooLong c = search (rules, too_long)
