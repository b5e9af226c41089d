-- A residue in a setup packet as 001's steps, each field judged as soon as it is read; rule 13 is judged after its book numbers (01, "Order").
-- Refusal 13 has its place at the residue's type.
use Rattle.std.specs.Prelude.{ℕ, suc, ◌+◌, ◌-◌, ◌*◌, ◌/◌, ◌%◌, Bool, true, ◌&&◌, cond, List, [], ◌∷◌, eqb}
use Rattle.reading.specs.Outcome.{refusal, ok, then, need}
use Rattle.reading.specs.Reader.{Reader, judged, mapped, many, each}
use Rattle.reading.specs.Lists.{all, rows}
use Rattle.bits.specs.Field.{field}
use Rattle.rules.specs.Rules as Rule
use Rattle.residue.specs.Content.{Residue}

-- what a residue is judged against: how many books are set up, and of each its dimensions, entries and lookup type
pub record Books : Type 0 where
  pub count : ℕ
  pub dimensions : ℕ → ℕ
  pub entries : ℕ → ℕ
  pub lookup : ℕ → ℕ

-- which passes a class has a book for, as one number: 3 low bits, a flag, 5 high bits behind a set flag
unfoldable pub cascade : Reader ℕ
cascade s k =
    then (field 3 s k) (λ low.
    then (field 1 s low.1) (λ flag.
    cond (eqb flag.0 0) (ok (low.0, flag.1)) (mapped (λ high. high * 8 + low.0) (field 5 s flag.1))))

-- its 8 bits, pass 0 first
abbrev pub passes : ℕ → List ℕ
passes c = c % 2 ∷ c / 2 % 2 ∷ c / 4 % 2 ∷ c / 8 % 2 ∷ c / 16 % 2 ∷ c / 32 % 2 ∷ c / 64 % 2 ∷ c / 128 % 2 ∷ []

-- a place of the plan: a book, 11 where it is not set up, where the pass's bit is set
unfoldable pub plan_book : ℕ → ℕ → Reader ℕ
plan_book count bit s k = cond (eqb bit 0) (ok (0, k)) (mapped suc (judged (λ v. Rule.meets11 (Rule.book count v)) 11 (field 8) s k))

-- a class's row of the plan
unfoldable pub plan_row : ℕ → ℕ → Reader (List ℕ)
plan_row count c = each (plan_book count) (passes c)

-- rule 13 for a place of the plan: the book has values, and its dimensions divide the partition size
unfoldable pub place_fits : Books → ℕ → ℕ → Bool
place_fits books size b = cond (eqb b 0) true (Rule.meets13 (Rule.lookup (books.lookup (b - 1))) && Rule.meets13 (Rule.partition (books.dimensions (b - 1)) size))

-- rule 13
unfoldable pub residue_fits : Books → Residue → Bool
residue_fits books r =
    Rule.meets13 (Rule.begin_end r.begin r.end)
    && (Rule.meets13 (Rule.class_words (books.entries r.classbook) (books.dimensions r.classbook) r.classifications)
    && all (place_fits books r.size) (rows (λ row. row) r.plan))

-- the fields before the plan
pub record Head : Type 0 where
  pub type : ℕ
  pub begin : ℕ
  pub end : ℕ
  pub size : ℕ
  pub classifications : ℕ
  pub classbook : ℕ

-- those after type, begin and end
unfoldable pub head_from : ℕ → ℕ → ℕ → ℕ → Reader Head
head_from count type begin end s k =
    then (field 24 s k) (λ size.
    then (field 6 s size.1) (λ classifications.
    then (judged (λ v. Rule.meets11 (Rule.book count v)) 11 (field 8) s classifications.1) (λ classbook.
    ok (record { type = type; begin = begin; end = end; size = size.0 + 1; classifications = classifications.0 + 1; classbook = classbook.0 }, classbook.1))))

unfoldable pub head : ℕ → Reader Head
head count s k =
    then (judged (λ v. Rule.meets10 (Rule.residue_type v)) 10 (field 16) s k) (λ type.
    then (field 24 s type.1) (λ begin.
    then (field 24 s begin.1) (λ end.
    head_from count type.0 begin.0 end.0 s end.1)))

abbrev pub with_plan : Head → List (List ℕ) → Residue
with_plan h plan = record { type = h.type; begin = h.begin; end = h.end; size = h.size; classifications = h.classifications; classbook = h.classbook; plan = plan }

-- what follows the cascades: the plan, and then rule 13, whose place is the residue's type
unfoldable pub residue_from : Books → ℕ → Head → List ℕ → Reader Residue
residue_from books place h cascades s k =
    then (each (plan_row books.count) cascades s k) (λ plan.
    need (residue_fits books (with_plan h plan.0)) (refusal 13 place)
    (ok (with_plan h plan.0, plan.1)))

-- a residue of the setup packet (003, 4.2.4, "Residues"; 001)
unfoldable pub residue : Books → Reader Residue
residue books s k =
    then (head books.count s k) (λ h.
    then (many cascade h.0.classifications s h.1) (λ cascades.
    residue_from books k h.0 cascades.0 s cascades.1))
