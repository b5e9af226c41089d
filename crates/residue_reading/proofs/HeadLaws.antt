-- Laws of the fields before the plan as the code asks them: one for each way out of a function. Assumes nothing.
use Rattle.std.specs.Prelude.{Result, Ok, Err, IsErrAnd}
use Prim.Native.Nat.{ℕ, ◌+◌, ◌^◌, ◌≤◌, ◌<◌}
use native.Mathlib.Omega.{arith}
use borrow.Author.Tests.{le-leb, lt-leb, lt-ltb, le-ltb}
use mathlib.Core.List.{List}
use mathlib.Core.Path.{◌≡◌, ap, ◌∙◌}
use Rattle.bits.specs.declared.Cursor.{Cursor}
use Rattle.bits.specs.declared.refusal.Refusal.{Refusal}
use Rattle.bits.specs.Inner.Cursors.{position, outcome}
use Rattle.bits.specs.Field.{field}
use Rattle.bits.proofs.Answers.{value_is, refused_is, value_below, sent_back}
use Rattle.reading.specs.Outcome.{Outcome}
use Rattle.reading.specs.Reader.{mapped}
use Rattle.bits.specs.declared.refusal.Reason.{Reason}
use Rattle.bits.specs.declared.refusal.Reason.TheVariants as R
use Rattle.residue.specs.Reading.{Head, head, head_from}
use Rattle.residue.specs.Inner.Heads.{head_of}
use Rattle.residue.specs.declared.head.Head as D

-- what reading the fields comes to, as content
abbrev pub head_read : Result (D.Head × Cursor) Refusal → Outcome (Head × ℕ)
head_read r = mapped head_of (outcome r)

-- what the exit of a `?` returns
pub head_back : (r : Result (D.Head × Cursor) Refusal) (z : Refusal) {o : Outcome (Head × ℕ)} → IsErrAnd r (λ y. y ≡ z) → head_read (Err z) ≡ o → head_read r ≡ o
head_back r z b e = ap head_read (sent_back r z b) ∙ e

abbrev at : Reason → Cursor → Refusal
at why c = record { reason = why; place = c }

-- type, begin, end
module _ (count : ℕ) (s : List ℕ) (k : Cursor) {r : Result (ℕ × Cursor) Refusal} (p : outcome r ≡ field 16 s (position k)) where
  pub type_cut : {z : Refusal} → r ≡ Err z → head_read (Err z) ≡ head count s (position k)
  unfolding head mapped outcome
  type_cut q = rw (refused_is p q)

  module _ {type : ℕ} {k₁ : Cursor} (q : r ≡ Ok (type, k₁)) where
    pub type_large : 2 < type → head_read (Err (at R.UnknownType k)) ≡ head count s (position k)
    unfolding head mapped outcome
    type_large h = rw (value_is p q, lt-leb _ _ h)

    module _ (small : type ≤ 2) {r₁ : Result (ℕ × Cursor) Refusal} (p₁ : outcome r₁ ≡ field 24 s (position k₁)) where
      pub begin_cut : {z : Refusal} → r₁ ≡ Err z → head_read (Err z) ≡ head count s (position k)
      unfolding head mapped outcome
      begin_cut q₁ = rw (value_is p q, le-leb _ _ small, refused_is p₁ q₁)

      module _ {begin : ℕ} {k₂ : Cursor} (q₁ : r₁ ≡ Ok (begin, k₂)) {r₂ : Result (ℕ × Cursor) Refusal} (p₂ : outcome r₂ ≡ field 24 s (position k₂)) where
        pub end_cut : {z : Refusal} → r₂ ≡ Err z → head_read (Err z) ≡ head count s (position k)
        unfolding head mapped outcome
        end_cut q₂ = rw (value_is p q, le-leb _ _ small, value_is p₁ q₁, refused_is p₂ q₂)

        pub head_rest : {end : ℕ} {k₃ : Cursor} → r₂ ≡ Ok (end, k₃) → (a : Result (D.Head × Cursor) Refusal) → head_read a ≡ head_from count type begin end s (position k₃)
            → head_read a ≡ head count s (position k)
        unfolding head head_from
        head_rest q₂ a e = rw (value_is p q, le-leb _ _ small, value_is p₁ q₁, value_is p₂ q₂) e

-- one more than a field of 24 bits or fewer fits 32 bits
pub size_fits : {r : Result (ℕ × Cursor) Refusal} (s : List ℕ) (k : ℕ) {v : ℕ} {c : Cursor} → outcome r ≡ field 24 s k → r ≡ Ok (v, c) → v + 1 < 2 ^ 32
size_fits s k p q = let h = value_below 24 s k p q in omega arith

pub classes_fit : {r : Result (ℕ × Cursor) Refusal} (s : List ℕ) (k : ℕ) {v : ℕ} {c : Cursor} → outcome r ≡ field 6 s k → r ≡ Ok (v, c) → v + 1 < 2 ^ 32
classes_fit s k p q = let h = value_below 6 s k p q in omega arith

-- partition size, classifications, class book
module _ (count type begin end : ℕ) (s : List ℕ) (k : Cursor) {r : Result (ℕ × Cursor) Refusal} (p : outcome r ≡ field 24 s (position k)) where
  pub size_cut : {z : Refusal} → r ≡ Err z → head_read (Err z) ≡ head_from count type begin end s (position k)
  unfolding head_from mapped outcome
  size_cut q = rw (refused_is p q)

  module _ {size : ℕ} {k₁ : Cursor} (q : r ≡ Ok (size, k₁)) {r₁ : Result (ℕ × Cursor) Refusal} (p₁ : outcome r₁ ≡ field 6 s (position k₁)) where
    pub classes_cut : {z : Refusal} → r₁ ≡ Err z → head_read (Err z) ≡ head_from count type begin end s (position k)
    unfolding head_from mapped outcome
    classes_cut q₁ = rw (value_is p q, refused_is p₁ q₁)

    module _ {classes : ℕ} {k₂ : Cursor} (q₁ : r₁ ≡ Ok (classes, k₂)) {r₂ : Result (ℕ × Cursor) Refusal} (p₂ : outcome r₂ ≡ field 8 s (position k₂)) where
      pub classbook_cut : {z : Refusal} → r₂ ≡ Err z → head_read (Err z) ≡ head_from count type begin end s (position k)
      unfolding head_from mapped outcome
      classbook_cut q₂ = rw (value_is p q, value_is p₁ q₁, refused_is p₂ q₂)

      module _ {book : ℕ} {k₃ : Cursor} (q₂ : r₂ ≡ Ok (book, k₃)) where
        pub classbook_unset : count ≤ book → head_read (Err (at R.NotSetUp k₂)) ≡ head_from count type begin end s (position k)
        unfolding head_from mapped outcome
        classbook_unset h = rw (value_is p q, value_is p₁ q₁, value_is p₂ q₂, le-ltb _ _ h)

        pub head_whole : book < count
            → head_read (Ok (record { kind = type; begin = begin; end = end; size = size + 1; classifications = classes + 1; classbook = book }, k₃))
            ≡ head_from count type begin end s (position k)
        unfolding head_from mapped outcome
        head_whole h = rw (value_is p q, value_is p₁ q₁, value_is p₂ q₂, lt-ltb _ _ h)
