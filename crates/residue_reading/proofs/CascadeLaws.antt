-- Laws of a class's cascade and of the loop over the classes, as the code asks them. Assumes nothing.
use Rattle.std.specs.Prelude.{Result, Ok, Err}
use Prim.Native.Nat.{ℕ, ◌+◌, ◌*◌, ◌^◌, ◌≤◌, ◌<◌}
use native.Mathlib.Omega.{arith}
use borrow.Author.Tests.{eq-eqb, ne_eqb}
use mathlib.Core.List.{List}
use mathlib.Core.Path.{◌≡◌}
use lib.ListN.{set, replicate, length-replicate}
use Rattle.reading.specs.Reader.{many, mapped}
use Rattle.bits.specs.declared.Cursor.{Cursor}
use Rattle.bits.specs.declared.refusal.Refusal.{Refusal}
use Rattle.bits.specs.Inner.Cursors.{position, outcome}
use Rattle.bits.specs.Field.{field}
use Rattle.bits.proofs.Answers.{value_is, refused_is, value_below}
use Rattle.residue.specs.Reading.{cascade}
use Rattle.residue_reading.specs.Inner.Slots.{pad_with}
use Rattle.residue_reading.proofs.SlotLaws.{Filling, fill_start, fill_next, fill_refused, fill_done, many_each}

-- a cascade
module _ (s : List ℕ) (k : Cursor) {r : Result (ℕ × Cursor) Refusal} (p : outcome r ≡ field 3 s (position k)) where
  pub low_cut : {z : Refusal} → r ≡ Err z → outcome (Err z) ≡ cascade s (position k)
  unfolding cascade outcome
  low_cut q = rw (refused_is p q)

  module _ {low : ℕ} {k₁ : Cursor} (q : r ≡ Ok (low, k₁)) {r₁ : Result (ℕ × Cursor) Refusal} (p₁ : outcome r₁ ≡ field 1 s (position k₁)) where
    pub flag_cut : {z : Refusal} → r₁ ≡ Err z → outcome (Err z) ≡ cascade s (position k)
    unfolding cascade outcome
    flag_cut q₁ = rw (value_is p q, refused_is p₁ q₁)

    module _ {flag : ℕ} {k₂ : Cursor} (q₁ : r₁ ≡ Ok (flag, k₂)) where
      pub low_alone : flag ≡ 0 → outcome (Ok (low, k₂)) ≡ cascade s (position k)
      unfolding cascade outcome
      low_alone e = rw (value_is p q, value_is p₁ q₁, eq-eqb _ _ e)

      module _ (set : flag ≡ 0 → ⊥) {r₂ : Result (ℕ × Cursor) Refusal} (p₂ : outcome r₂ ≡ field 5 s (position k₂)) where
        pub high_cut : {z : Refusal} → r₂ ≡ Err z → outcome (Err z) ≡ cascade s (position k)
        unfolding cascade outcome mapped
        high_cut q₂ = rw (value_is p q, value_is p₁ q₁, ne_eqb _ _ set, refused_is p₂ q₂)

        pub high_and_low : {high : ℕ} {k₃ : Cursor} → r₂ ≡ Ok (high, k₃) → outcome (Ok (high * 8 + low, k₃)) ≡ cascade s (position k)
        unfolding cascade outcome mapped
        high_and_low q₂ = rw (value_is p q, value_is p₁ q₁, ne_eqb _ _ set, value_is p₂ q₂)

-- a cascade fits 32 bits
module _ {r : Result (ℕ × Cursor) Refusal} (s : List ℕ) (k : ℕ) {high : ℕ} {c : Cursor} (p : outcome r ≡ field 5 s k) (q : r ≡ Ok (high, c)) where
  pub high_fits : high * 8 < 2 ^ 32
  high_fits = let h = value_below 5 s k p q in omega arith

  pub cascade_fits : {r₁ : Result (ℕ × Cursor) Refusal} (j : ℕ) {low : ℕ} {d : Cursor} → outcome r₁ ≡ field 3 s j → r₁ ≡ Ok (low, d) → high * 8 + low < 2 ^ 32
  cascade_fits j p₁ q₁ = let h = value_below 5 s k p q in let g = value_below 3 s j p₁ q₁ in omega arith

-- the loop over the classes
pub record Cascading (s : List ℕ) (classes : ℕ) (k₀ : Cursor) (numbers : List ℕ) (c : Cursor) (i : ℕ) : Type 0 where
  pub within : i ≤ classes
  pub filling : Filling 0 0 64 (λ (x : ℕ). cascade) s (replicate classes 0) k₀ numbers c i

module _ (s : List ℕ) (classes : ℕ) (k₀ : Cursor) where
  pub cascades_start : Cascading s classes k₀ (replicate 64 0) k₀ 0
  cascades_start = record { within = omega arith; filling = fill_start 0 0 64 (λ (x : ℕ). cascade) s (replicate classes 0) k₀ }

  module _ {numbers : List ℕ} {c : Cursor} {i : ℕ} (w : Cascading s classes k₀ numbers c i) where
    pub cascades_done : classes ≤ i → outcome (Ok (numbers, c)) ≡ mapped (pad_with 0 64) (many cascade classes s (position k₀))
    cascades_done h =
        let n = length-replicate {A = ℕ} classes 0 in
        rw many_each (fill_done 0 0 64 (λ (x : ℕ). cascade) s (replicate classes 0) w.filling (omega arith))

    module _ (h : i < classes) {r : Result (ℕ × Cursor) Refusal} (p : outcome r ≡ cascade s (position c)) where
      pub cascades_refused : {z : Refusal} → r ≡ Err z → outcome {A = List ℕ} (Err z) ≡ mapped (pad_with 0 64) (many cascade classes s (position k₀))
      cascades_refused q =
          let n = length-replicate {A = ℕ} classes 0 in
          rw many_each (fill_refused 0 0 64 (λ (x : ℕ). cascade) s (replicate classes 0) w.filling (omega arith) _ (refused_is p q))

      pub cascades_next : {v : ℕ} {c' : Cursor} → r ≡ Ok (v, c') → Cascading s classes k₀ (set numbers i v) c' (i + 1)
      cascades_next q =
          let n = length-replicate {A = ℕ} classes 0 in
          record { within = omega arith; filling = fill_next 0 0 64 (λ (x : ℕ). cascade) s (replicate classes 0) w.filling (omega arith) (value_is p q) }
