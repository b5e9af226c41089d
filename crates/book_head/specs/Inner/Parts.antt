-- A piece of the head's reading (crates/book/specs/HeadReading.antt) under a name of its own, for the function that reads it. Nothing is added to what is read.
use Rattle.std.specs.Prelude.{ℕ}
use Rattle.reading.specs.Reader.{Reader, judged}
use Rattle.bits.specs.Field.{field}
use Rattle.limits.specs.declared.Limits.{Limits}
use Rattle.rules.specs.Rules as Rule

-- the number of entries, where the books before have so many
unfoldable pub entry_count : Limits → ℕ → Reader ℕ
entry_count limits before =
    judged (λ v. Rule.meets14 (Rule.all_entries limits.entries before v)) 14
    (judged (λ v. Rule.meets14 (Rule.book_entries limits.book_entries v)) 14 (judged (λ v. Rule.meets6 (Rule.entries v)) 6 (field 24)))
