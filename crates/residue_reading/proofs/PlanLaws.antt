-- Laws of reading the plan, as the code asks them: a place, a class's row, the rows of all classes. Assumes nothing.
use Rattle.std.specs.Prelude.{Result, Ok, Err}
use Prim.Native.Nat.{ℕ, zero, suc, ◌+◌, ◌/◌, ◌%◌, ◌^◌, ◌≤◌, ◌<◌}
use native.Mathlib.Nat.{div-one}
use native.Mathlib.Numerals.{add-one}
use native.Mathlib.Omega.{arith}
use borrow.Author.Tests.{eq-eqb, ne_eqb, lt-ltb, le-ltb}
use mathlib.Core.List.{List}
use mathlib.Core.Path.{◌≡◌, refl, sym, ap, ◌∙◌}
use lib.ListN.{get_or, set, replicate}
use Rattle.reading.specs.Outcome.{Outcome, ok, bad}
use Rattle.reading.specs.Reader.{each, mapped}
use Rattle.reading.proofs.Readers.{Long, each_long}
use Rattle.bits.specs.declared.Cursor.{Cursor}
use Rattle.bits.specs.declared.refusal.Refusal.{Refusal}
use Rattle.bits.specs.declared.refusal.Reason.{Reason}
use Rattle.bits.specs.declared.refusal.Reason.TheVariants as R
use Rattle.bits.specs.Inner.Cursors.{position, outcome}
use Rattle.bits.specs.Field.{field}
use Rattle.bits.proofs.Answers.{value_is, refused_is}
use Rattle.residue.specs.Reading.{passes, plan_book, plan_row}
use Rattle.residue.proofs.PlanSound.{place_sound}
use Rattle.residue_reading.specs.Inner.Slots.{pad_with}
use Rattle.residue_reading.proofs.SlotLaws.{pad_with_whole, Filling, fill_start, fill_next, fill_refused, fill_done}

abbrev at : Reason → Cursor → Refusal
at why c = record { reason = why; place = c }

-- a place
module _ (count bit : ℕ) (s : List ℕ) (k : Cursor) where
  pub place_none : bit ≡ 0 → outcome (Ok (0, k)) ≡ plan_book count bit s (position k)
  unfolding plan_book outcome
  place_none e = rw (eq-eqb _ _ e)

  module _ (some : bit ≡ 0 → ⊥) {r : Result (ℕ × Cursor) Refusal} (p : outcome r ≡ field 8 s (position k)) where
    pub place_cut : {z : Refusal} → r ≡ Err z → outcome (Err z) ≡ plan_book count bit s (position k)
    unfolding plan_book outcome mapped
    place_cut q = rw (ne_eqb _ _ some, refused_is p q)

    module _ {v : ℕ} {c : Cursor} (q : r ≡ Ok (v, c)) where
      pub place_unset : count ≤ v → outcome (Err (at R.NotSetUp k)) ≡ plan_book count bit s (position k)
      unfolding plan_book outcome mapped
      place_unset h = rw (ne_eqb _ _ some, value_is p q, le-ltb _ _ h)

      pub place_book : v < count → outcome (Ok (v + 1, c)) ≡ plan_book count bit s (position k)
      unfolding plan_book outcome mapped
      place_book h = rw (ne_eqb _ _ some, value_is p q, lt-ltb _ _ h, add-one)

pub place_narrow : {r : Result (ℕ × Cursor) Refusal} (count bit : ℕ) (s : List ℕ) (k : ℕ) {v : ℕ} {c : Cursor} → outcome r ≡ plan_book count bit s k → r ≡ Ok (v, c) → v < 2 ^ 16
place_narrow count bit s k p q = let h = (place_sound count bit s k (value_is p q)).small in omega arith

-- bit j of a cascade
pub pass_at : (c j : ℕ) → j < 8 → get_or (passes c) j 0 ≡ c / 2 ^ j % 2
pass_at c zero h = ap (λ (x : ℕ). x % 2) (sym (div-one c))
pass_at c (suc zero) h = refl
pass_at c (suc (suc zero)) h = refl
pass_at c (suc (suc (suc zero))) h = refl
pass_at c (suc (suc (suc (suc zero)))) h = refl
pass_at c (suc (suc (suc (suc (suc zero))))) h = refl
pass_at c (suc (suc (suc (suc (suc (suc zero)))))) h = refl
pass_at c (suc (suc (suc (suc (suc (suc (suc zero))))))) h = refl
pass_at c (suc (suc (suc (suc (suc (suc (suc (suc j)))))))) h = absurd (omega arith)

-- what fills its array whole stands there as it is
module _ {A : Type 0} (z : A) (n : ℕ) where
  pub whole : (o : Outcome (List A × ℕ)) → Long n o → mapped (pad_with z n) o ≡ o
  unfolding mapped
  whole (ok x) h = ap (λ (l : List A). ok (l, x.1)) (pad_with_whole z n x.0 h)
  whole (bad y) h = refl

-- a class's row
pub record RowFilling (s : List ℕ) (count cascade : ℕ) (k₀ : Cursor) (books : List ℕ) (c : Cursor) (j : ℕ) : Type 0 where
  pub within : j ≤ 8
  pub filling : Filling 0 0 8 (plan_book count) s (passes cascade) k₀ books c j

module _ (s : List ℕ) (count cascade : ℕ) (k₀ : Cursor) where
  row_whole : mapped (pad_with 0 8) (each (plan_book count) (passes cascade) s (position k₀)) ≡ plan_row count cascade s (position k₀)
  unfolding plan_row
  row_whole = whole 0 8 (each (plan_book count) (passes cascade) s (position k₀)) (each_long (plan_book count) (passes cascade) s (position k₀))

  pub row_start : RowFilling s count cascade k₀ (replicate 8 0) k₀ 0
  row_start = record { within = omega arith; filling = fill_start 0 0 8 (plan_book count) s (passes cascade) k₀ }

  module _ {books : List ℕ} {c : Cursor} {j : ℕ} (w : RowFilling s count cascade k₀ books c j) where
    pub row_done : 8 ≤ j → outcome (Ok (books, c)) ≡ plan_row count cascade s (position k₀)
    row_done h = fill_done 0 0 8 (plan_book count) s (passes cascade) w.filling h ∙ row_whole

    module _ (h : j < 8) {r : Result (ℕ × Cursor) Refusal} (p : outcome r ≡ plan_book count (cascade / 2 ^ j % 2) s (position c)) where
      pub row_refused : {z : Refusal} → r ≡ Err z → outcome {A = List ℕ} (Err z) ≡ plan_row count cascade s (position k₀)
      row_refused q = fill_refused 0 0 8 (plan_book count) s (passes cascade) w.filling h _ (rw (pass_at cascade j h) (refused_is p q)) ∙ row_whole

      pub row_next : {v : ℕ} {c' : Cursor} → r ≡ Ok (v, c') → RowFilling s count cascade k₀ (set books j v) c' (j + 1)
      row_next q = record { within = omega arith; filling = fill_next 0 0 8 (plan_book count) s (passes cascade) w.filling h (rw (pass_at cascade j h) (value_is p q)) }
