-- Laws of a book's head as the code asks them: one for each way out. Assumes nothing.
use Rattle.std.specs.Prelude.{Result, Ok, Err}
use Prim.Native.Nat.{ℕ, ◌+◌, ◌-◌, ◌≤◌, ◌<◌}
use native.Mathlib.Omega.{arith}
use borrow.Author.Tests.{le-leb, lt-leb, eq-eqb, ne_eqb}
use mathlib.Core.Bool.{true, false}
use mathlib.Core.List.{List}
use mathlib.Core.Path.{◌≡◌}
use lib.Dec.{leb}
use Rattle.bits.specs.declared.Cursor.{Cursor}
use Rattle.bits.specs.declared.refusal.Refusal.{Refusal}
use Rattle.bits.specs.declared.refusal.Reason.{Reason}
use Rattle.bits.specs.declared.refusal.Reason.TheVariants as R
use Rattle.bits.specs.Inner.Cursors.{position, outcome}
use Rattle.bits.specs.Field.{field}
use Rattle.bits.proofs.Answers.{value_is, refused_is}
use Rattle.limits.specs.declared.Limits.{Limits}
use Rattle.book.specs.HeadReading.{head, totals}
use Rattle.book.specs.declared.Head.{Head}
use Rattle.book.proofs.HeadAccepted.{HeadKnown, head_ok}
use Rattle.book_head.specs.Inner.Parts.{entry_count}

abbrev at : Reason → Cursor → Refusal
at r c = record { reason = r; place = c }

fits_in : (most before v : ℕ) → before ≤ most → v ≤ most - before → leb (before + v) most ≡ true
fits_in most before v h g = le-leb (before + v) most (omega arith)

passes : (most before v : ℕ) → before ≤ most → most - before < v → leb (before + v) most ≡ false
passes most before v h g = lt-leb (before + v) most (omega arith)

-- the number of entries
module _ (l : Limits) (before : ℕ) (s : List ℕ) (k : Cursor) {r : Result (ℕ × Cursor) Refusal} (p : outcome r ≡ field 24 s (position k)) where
  pub entries_cut : {z : Refusal} → r ≡ Err z → outcome (Err z) ≡ entry_count l before s (position k)
  unfolding entry_count outcome
  entries_cut q = rw (refused_is p q)

  module _ {entries : ℕ} {c : Cursor} (q : r ≡ Ok (entries, c)) where
    pub entries_none : entries ≡ 0 → outcome (Err (at R.Codebook k)) ≡ entry_count l before s (position k)
    unfolding entry_count outcome
    entries_none n = rw (value_is p q, eq-eqb _ _ n)

    module _ (any : entries ≡ 0 → ⊥) where
      pub entries_many : l.book_entries < entries → outcome (Err (at R.Limit k)) ≡ entry_count l before s (position k)
      unfolding entry_count outcome
      entries_many h = rw (value_is p q, ne_eqb _ _ any, lt-leb _ _ h)

      module _ (few : entries ≤ l.book_entries) (within : before ≤ l.entries) where
        pub entries_past : l.entries - before < entries → outcome (Err (at R.Limit k)) ≡ entry_count l before s (position k)
        unfolding entry_count outcome
        entries_past h = rw (value_is p q, ne_eqb _ _ any, le-leb _ _ few, passes l.entries before entries within h)

        pub entries_whole : entries ≤ l.entries - before → outcome (Ok (entries, c)) ≡ entry_count l before s (position k)
        unfolding entry_count outcome
        entries_whole h = rw (value_is p q, ne_eqb _ _ any, le-leb _ _ few, fits_in l.entries before entries within h)

-- the head
module _ (l : Limits) (before : ℕ) (s : List ℕ) (k : Cursor) {r : Result (ℕ × Cursor) Refusal} (p : outcome r ≡ field 24 s (position k)) where
  pub pattern_cut : {z : Refusal} → r ≡ Err z → outcome (Err z) ≡ head l (totals before 0) s (position k)
  unfolding head outcome
  pattern_cut q = rw (refused_is p q)

  module _ {pattern : ℕ} {k₁ : Cursor} (q : r ≡ Ok (pattern, k₁)) where
    pub pattern_wrong : (pattern ≡ 0x564342 → ⊥) → outcome (Err (at R.Codebook k)) ≡ head l (totals before 0) s (position k)
    unfolding head outcome
    pattern_wrong n = rw (value_is p q, ne_eqb _ _ n)

    module _ (v : pattern ≡ 0x564342) {r₁ : Result (ℕ × Cursor) Refusal} (p₁ : outcome r₁ ≡ field 16 s (position k₁)) where
      pub dimensions_cut : {z : Refusal} → r₁ ≡ Err z → outcome (Err z) ≡ head l (totals before 0) s (position k)
      unfolding head outcome
      dimensions_cut q₁ = rw (value_is p q, eq-eqb _ _ v, refused_is p₁ q₁)

      module _ {dimensions : ℕ} {k₂ : Cursor} (q₁ : r₁ ≡ Ok (dimensions, k₂)) where
        pub dimensions_none : dimensions ≡ 0 → outcome (Err (at R.Codebook k₁)) ≡ head l (totals before 0) s (position k)
        unfolding head outcome
        dimensions_none n = rw (value_is p q, eq-eqb _ _ v, value_is p₁ q₁, eq-eqb _ _ n)

        module _ (some : dimensions ≡ 0 → ⊥) {r₂ : Result (ℕ × Cursor) Refusal} (p₂ : outcome r₂ ≡ entry_count l before s (position k₂)) where
          pub count_refused : {z : Refusal} → r₂ ≡ Err z → outcome (Err z) ≡ head l (totals before 0) s (position k)
          unfolding head outcome entry_count
          count_refused q₂ = rw (value_is p q, eq-eqb _ _ v, value_is p₁ q₁, ne_eqb _ _ some, refused_is p₂ q₂)

          pub head_whole : {entries : ℕ} {k₃ : Cursor} → r₂ ≡ Ok (entries, k₃)
              → outcome (Ok (record { dimensions = dimensions; entries = entries }, k₃)) ≡ head l (totals before 0) s (position k)
          unfolding head outcome entry_count
          head_whole q₂ = rw (value_is p q, eq-eqb _ _ v, value_is p₁ q₁, ne_eqb _ _ some, value_is p₂ q₂)

-- the same of an answer
pub head_known : (l : Limits) (before : ℕ) (s : List ℕ) (k : ℕ) {r : Result (Head × Cursor) Refusal} {h : Head} {c : Cursor} → outcome r ≡ head l (totals before 0) s k → r ≡ Ok (h, c)
    → HeadKnown l (totals before 0) h
head_known l before s k p q = head_ok l (totals before 0) s k (value_is p q)
