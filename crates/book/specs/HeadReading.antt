-- The fields before a codebook's lengths as 002's steps, each judged as soon as it is read.
use Rattle.std.specs.Prelude.{ℕ}
use Rattle.reading.specs.Outcome.{ok, then}
use Rattle.reading.specs.Reader.{Reader, judged}
use Rattle.bits.specs.Field.{field}
use Rattle.limits.specs.declared.Limits.{Limits}
use Rattle.rules.specs.Rules as Rule
use Rattle.book.specs.declared.Head.{Head}

-- how many entries and multiplicands the books before have
pub record Before : Type 0 where
  pub entries : ℕ
  pub values : ℕ

abbrev pub totals : ℕ → ℕ → Before
totals entries values = record { entries = entries; values = values }

-- the fields before the lengths: pattern and dimensions (6), entries (6 where 0; 14 above the limit for a book, or with those before above the limit in all)
unfoldable pub head : Limits → Before → Reader Head
head limits before s k =
    then (judged (λ v. Rule.meets6 (Rule.pattern v)) 6 (field 24) s k) (λ pattern.
    then (judged (λ v. Rule.meets6 (Rule.dimensions v)) 6 (field 16) s pattern.1) (λ dimensions.
    then (judged (λ v. Rule.meets14 (Rule.all_entries limits.entries before.entries v)) 14
    (judged (λ v. Rule.meets14 (Rule.book_entries limits.book_entries v)) 14 (judged (λ v. Rule.meets6 (Rule.entries v)) 6 (field 24))) s dimensions.1) (λ entries.
    ok (record { dimensions = dimensions.0; entries = entries.0 }, entries.1))))
