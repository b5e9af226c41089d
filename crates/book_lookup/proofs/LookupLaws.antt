-- Laws of a book's lookup as the code asks them. Assumes nothing.
use Rattle.std.specs.Prelude.{Result, Ok, Err}
use Prim.Native.Nat.{ℕ, ◌+◌, ◌-◌, ◌*◌, ◌≤◌, ◌<◌}
use native.Mathlib.Nat.{lt_of_lt_of_le}
use native.Mathlib.Omega.{arith}
use borrow.Author.Rules.{rules}
use borrow.Author.Tests.{le-leb, lt-leb, eq-eqb, ne_eqb}
use mathlib.Core.List.{List, [], ◌∷◌, ◌++◌}
use mathlib.Core.Path.{◌≡◌, sym, ap, ◌∙◌}
use lib.ListN.{length, take, drop}
use lib.Seq.{sets}
use lib.Pow.{pow_mono}
use Rattle.reading.specs.Outcome.{Outcome, ok, bad}
use Rattle.reading.specs.Outcome as O
use Rattle.reading.specs.Reader.{many, mapped}
use Rattle.reading.proofs.Basics.{product_fits}
use Rattle.bits.specs.declared.Cursor.{Cursor}
use Rattle.bits.specs.declared.refusal.Refusal.{Refusal}
use Rattle.bits.specs.declared.refusal.Reason.{Reason}
use Rattle.bits.specs.declared.refusal.Reason.TheVariants as R
use Rattle.bits.specs.Inner.Cursors.{position, refusal_of, outcome, Wrote}
use Rattle.bits.specs.Field.{field}
use Rattle.bits.proofs.Answers.{value_is, refused_is, value_below}
use Rattle.bits.proofs.Parts.{mapped-then, wrote_mapped, wrote_as, part_back}
use Rattle.book.specs.LookupReading.{lookup1_values, value_count, values, lookup}
use Rattle.book.specs.Inner.LookupParts.{parameters, stored}
use Rattle.book.specs.declared.Parameters.{Parameters}
use Rattle.book.proofs.LookupAccepted.{parameters-ok, with_values, values_as}

abbrev at : Reason → Cursor → Refusal
at r c = record { reason = r; place = c }

-- the four numbers
module _ (s : List ℕ) (k : Cursor) {r : Result (ℕ × Cursor) Refusal} (p : outcome r ≡ field 32 s (position k)) where
  pub minimum_cut : {z : Refusal} → r ≡ Err z → outcome (Err z) ≡ parameters s (position k)
  unfolding parameters outcome
  minimum_cut q = rw (refused_is p q)

  module _ {v : ℕ} {k₁ : Cursor} (q : r ≡ Ok (v, k₁)) {r₁ : Result (ℕ × Cursor) Refusal} (p₁ : outcome r₁ ≡ field 32 s (position k₁)) where
    pub delta_cut : {z : Refusal} → r₁ ≡ Err z → outcome (Err z) ≡ parameters s (position k)
    unfolding parameters outcome
    delta_cut q₁ = rw (value_is p q, refused_is p₁ q₁)

    module _ {v₁ : ℕ} {k₂ : Cursor} (q₁ : r₁ ≡ Ok (v₁, k₂)) {r₂ : Result (ℕ × Cursor) Refusal} (p₂ : outcome r₂ ≡ field 4 s (position k₂)) where
      pub width_cut : {z : Refusal} → r₂ ≡ Err z → outcome (Err z) ≡ parameters s (position k)
      unfolding parameters outcome
      width_cut q₂ = rw (value_is p q, value_is p₁ q₁, refused_is p₂ q₂)

      module _ {v₂ : ℕ} {k₃ : Cursor} (q₂ : r₂ ≡ Ok (v₂, k₃)) {r₃ : Result (ℕ × Cursor) Refusal} (p₃ : outcome r₃ ≡ field 1 s (position k₃)) where
        pub sequence_cut : {z : Refusal} → r₃ ≡ Err z → outcome (Err z) ≡ parameters s (position k)
        unfolding parameters outcome
        sequence_cut q₃ = rw (value_is p q, value_is p₁ q₁, value_is p₂ q₂, refused_is p₃ q₃)

        pub parameters_whole : {v₃ : ℕ} {k₄ : Cursor} → r₃ ≡ Ok (v₃, k₄)
            → outcome (Ok (record { minimum = v; delta = v₁; width = v₂ + 1; sequence = v₃ }, k₄)) ≡ parameters s (position k)
        unfolding parameters outcome
        parameters_whole q₃ = rw (value_is p q, value_is p₁ q₁, value_is p₂ q₂, value_is p₃ q₃)

pub width_fits : {r : Result (ℕ × Cursor) Refusal} (s : List ℕ) (k : ℕ) {v : ℕ} {c : Cursor} → outcome r ≡ field 4 s k → r ≡ Ok (v, c) → v + 1 < 4294967296
width_fits s k p q = let b = value_below 4 s k p q in omega arith

-- how many multiplicands
pub count_one : (type entries dimensions v : ℕ) → type ≡ 1 → v ≡ lookup1_values entries dimensions → v ≡ value_count type entries dimensions
unfolding value_count
count_one type entries dimensions v e q = rw (eq-eqb _ _ e) q

pub count_two : (type entries dimensions : ℕ) → (type ≡ 1 → ⊥) → entries * dimensions ≡ value_count type entries dimensions
unfolding value_count
count_two type entries dimensions n = rw (ne_eqb _ _ n)

pub multiplicand_fits : {r : Result (ℕ × Cursor) Refusal} (w : ℕ) (s : List ℕ) (k : ℕ) {v : ℕ} {c : Cursor} → w ≤ 16 → outcome r ≡ field w s k → r ≡ Ok (v, c) → v < 65536
multiplicand_fits w s k h p q = lt_of_lt_of_le (value_below w s k p q) (pow_mono {i = w} {j = 16} h)

pub parameters-width : (s : List ℕ) (k : ℕ) {r : Result (Parameters × Cursor) Refusal} {a : Parameters} {c : Cursor} → outcome r ≡ parameters s k → r ≡ Ok (a, c) → a.width ≤ 16
parameters-width s k p q = (parameters-ok s k (value_is p q)).width_high

-- a refusal, laid out
stopped : {T U : Type 0} (f : T → U) {o : Outcome (T × ℕ)} {z : O.Refusal} → o ≡ bad z → mapped f o ≡ bad z
unfolding mapped
stopped f b = rw b

module _ (place : Cursor) (type count first most : ℕ) (s : List ℕ) (k : ℕ) (m : List ℕ) {r : Result (Parameters × Cursor) Refusal} (p : outcome r ≡ parameters s k) where
  pub values_refused : {z : Refusal} → r ≡ Err z → mapped (stored m first) (values (position place) type count most first s k) ≡ bad (refusal_of z)
  values_refused q = stopped (stored m first) (values_as (position place) type count most first s k ∙ rw (refused_is p q))

  module _ {a : Parameters} {c : Cursor} (q : r ≡ Ok (a, c)) where
    pub values_past : most - first < count → mapped (stored m first) (values (position place) type count most first s k) ≡ bad (refusal_of (at R.Limit place))
    values_past h =
        stopped (stored m first) (values_as (position place) type count most first s k ∙ rw (value_is p q, lt-leb (first + count) most (omega arith)))

    values-list : first ≤ most → count ≤ most - first
        → mapped (stored m first) (values (position place) type count most first s k)
        ≡ mapped (λ list. stored m first (with_values type a list)) (many (field a.width) count s (position c))
    values-list o h =
        ap (mapped (stored m first)) (values_as (position place) type count most first s k)
        ∙ rw (value_is p q, le-leb (first + count) most (omega arith))
        (mapped-then (stored m first) (with_values type a) (many (field a.width) count s (position c)))

    pub values_whole : first ≤ most → count ≤ most - first → first + count ≤ length m → {n : ℕ} → n ≡ count → {st : Result Cursor Refusal} {part : List ℕ}
        → Wrote (many (field a.width) n s (position c)) st part → length part ≡ count
        → Wrote (mapped (stored m first) (values (position place) type count most first s k)) st
        (type ∷ a.minimum ∷ a.delta ∷ a.width ∷ a.sequence ∷ count ∷ [], take first m ++ (part ++ drop (first + count - first) (drop first m)))
    values_whole o h g {n} e {st} {part} w l =
        let f : first + count - first ≡ count = omega arith in
        let b : sets m first part ≡ take first m ++ (part ++ drop (first + count - first) (drop first m))
        = part_back m first part (omega arith) ∙ ap (λ (x : ℕ). take first m ++ (part ++ drop x (drop first m))) (l ∙ sym f) in
        wrote_as
        (sym (values-list o h ∙ ap (λ (x : ℕ). mapped (λ list. stored m first (with_values type a list)) (many (field a.width) x s (position c))) (sym e)))
        (λ j. (type ∷ a.minimum ∷ a.delta ∷ a.width ∷ a.sequence ∷ l j ∷ [], b j))
        (wrote_mapped (λ list. stored m first (with_values type a list)) w)

-- the lookup's type
module _ (place : ℕ) (entries dimensions most first : ℕ) (s : List ℕ) (k : Cursor) (m : List ℕ) {r : Result (ℕ × Cursor) Refusal} (p : outcome r ≡ field 4 s (position k)) where
  pub type_cut : {z : Refusal} → r ≡ Err z → mapped (stored m first) (lookup place entries dimensions most first s (position k)) ≡ bad (refusal_of z)
  unfolding lookup
  type_cut q = stopped (stored m first) (rw (refused_is p q))

  module _ {type : ℕ} {c : Cursor} (q : r ≡ Ok (type, c)) where
    pub type_past : 2 < type → mapped (stored m first) (lookup place entries dimensions most first s (position k)) ≡ bad (refusal_of (at R.Codebook k))
    unfolding lookup
    type_past h = stopped (stored m first) (rw (value_is p q, lt-leb type 2 h))

    module _ (h : type ≤ 2) where
      pub type_none : type ≡ 0 → mapped (stored m first) (lookup place entries dimensions most first s (position k)) ≡ ok ((0 ∷ 0 ∷ 0 ∷ 0 ∷ 0 ∷ 0 ∷ [], m), position c)
      unfolding lookup mapped
      type_none z = rw (value_is p q, le-leb type 2 h, eq-eqb type 0 z)

      pub type_some : (type ≡ 0 → ⊥) → {count : ℕ} → count ≡ value_count type entries dimensions → {o : Outcome ((List ℕ × List ℕ) × ℕ)}
          → o ≡ mapped (stored m first) (values place type count most first s (position c)) → o ≡ mapped (stored m first) (lookup place entries dimensions most first s (position k))
      unfolding lookup
      type_some z e w = rw (value_is p q, le-leb type 2 h, ne_eqb type 0 z, ← e) w

pub ruleset lookup_laws = (rules, count_one, count_two, product_fits)
