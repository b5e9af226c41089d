-- A codebook's lookup as 002's steps, each field judged as soon as it is read, with 01's exception ("Order"): the multiplicand limit before the first
-- multiplicand. That refusal has its place at the book's first bit.
use Rattle.std.specs.Prelude.{ℕ, zero, suc, ◌+◌, ◌*◌, ◌^◌, cond, List, [], eqb, leb}
use Rattle.reading.specs.Outcome.{refusal, ok, then, need}
use Rattle.reading.specs.Reader.{Reader, judged, many}
use Rattle.bits.specs.Field.{field}
use Rattle.rules.specs.Rules as Rule

-- the greatest r not above n with r ^ d not above e
unfoldable pub greatest : ℕ → ℕ → ℕ → ℕ
greatest d e zero = 0
greatest d e (suc n) = cond (leb (suc n ^ d) e) (suc n) (greatest d e n)

-- how many multiplicands a lookup of type 1 has: the greatest r with r ^ dimensions not above entries (002; 000, 9.2.3)
unfoldable pub lookup1_values : ℕ → ℕ → ℕ
lookup1_values entries dimensions = greatest dimensions entries entries

unfoldable pub value_count : ℕ → ℕ → ℕ → ℕ
value_count lookup entries dimensions = cond (eqb lookup 1) (lookup1_values entries dimensions) (entries * dimensions)

-- the lookup behind its type
pub record Lookup : Type 0 where
  pub lookup : ℕ
  pub minimum : ℕ
  pub delta : ℕ
  pub width : ℕ
  pub sequence : ℕ
  pub multiplicands : List ℕ

abbrev pub no_lookup : Lookup
no_lookup = record { lookup = 0; minimum = 0; delta = 0; width = 0; sequence = 0; multiplicands = [] }

-- most is the limit on multiplicands in all, of which the books before have so many
unfoldable pub values : ℕ → ℕ → ℕ → ℕ → ℕ → Reader Lookup
values place type count most before s k =
    then (field 32 s k) (λ minimum.
    then (field 32 s minimum.1) (λ delta.
    then (field 4 s delta.1) (λ width.
    then (field 1 s width.1) (λ sequence.
    need (Rule.meets14 (Rule.multiplicands most before count)) (refusal 14 place)
    (then (many (field (width.0 + 1)) count s sequence.1) (λ list.
    ok (record { lookup = type; minimum = minimum.0; delta = delta.0; width = width.0 + 1; sequence = sequence.0; multiplicands = list.0 }, list.1)))))))

unfoldable pub lookup : ℕ → ℕ → ℕ → ℕ → ℕ → Reader Lookup
lookup place entries dimensions most before s k =
    then (judged (λ v. Rule.meets6 (Rule.lookup_type v)) 6 (field 4) s k) (λ type.
    cond (eqb type.0 0) (ok (no_lookup, type.1)) (values place type.0 (value_count type.0 entries dimensions) most before s type.1))
