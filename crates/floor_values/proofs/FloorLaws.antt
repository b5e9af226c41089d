-- Laws of putting the values of a floor together, as the code asks them. Assumes nothing.
use Rattle.std.specs.Prelude.{Result, Ok, Err}
use Prim.Native.Nat.{ℕ, ◌+◌}
use native.Mathlib.Omega.{arith}
use borrow.Author.Tests.{eq-eqb, ne_eqb}
use mathlib.Core.Bool.{true, false}
use mathlib.Core.List.{List, ◌++◌}
use mathlib.Core.Path.{◌≡◌, refl, sym, ap, ◌∙◌}
use lib.ListN.{length}
use lib.Seq.{sets}
use Rattle.reading.specs.Lists.{rows}
use Rattle.reading.specs.Outcome.{Outcome, ok, bad, then}
use Rattle.reading.specs.Reader.{many, each, mapped, puts, into}
use Rattle.reading.specs.Inner.Table.{Table, table, put_row}
use Rattle.reading.proofs.Readers.{mapped_ok, mapped_bad}
use Rattle.reading.proofs.Tables.{puts-rows, sets_append}
use Rattle.reading.proofs.Accepted.{many_number}
use Rattle.bits.specs.declared.Cursor.{Cursor}
use Rattle.bits.specs.declared.refusal.Refusal.{Refusal}
use Rattle.bits.specs.Inner.Cursors.{position, refusal_of, outcome, Wrote}
use Rattle.bits.specs.Field.{field}
use Rattle.bits.proofs.Answers.{value_is, refused_is}
use Rattle.bits.proofs.Steps.{wrote_refused, wrote_bad, wrote_ok}
use Rattle.numbers.specs.Inner.Cell.{cell}
use Rattle.floor.specs.Content.{Floor}
use Rattle.numbers.proofs.Collected.{rows_cell, wrote_as}
use Rattle.floor_partition.specs.Partition.{whole}
use Rattle.floor_values.specs.Values.{first_bits, partition_of, used_values, floor_values, with_values, answered_values}

-- the later values behind the first two
after : (entry list ys : List ℕ) → sets entry 0 ys ≡ list → length ys ≡ 2 → (o : Outcome (List (List ℕ) × ℕ))
    → mapped (λ l. sets list 2 (rows whole l)) o ≡ mapped (sets entry 0) (then o (λ later. ok (ys ++ rows whole later.0, later.1)))
unfolding mapped
after entry list ys e n (ok x) =
    let two : 2 ≡ 0 + length ys = omega arith in
    let f : sets list 2 (rows whole x.0) ≡ sets entry 0 (ys ++ rows whole x.0) =
    ap (λ (t : List ℕ). sets t 2 (rows whole x.0)) (sym e) ∙ ap (λ (m : ℕ). sets (sets entry 0 ys) m (rows whole x.0)) two ∙ sym (sets_append ys (rows whole x.0) entry 0) in
    λ j. ok (f j, x.1)
after entry list ys e n (bad z) = refl

-- a floor that is used: w is the answer for the first two values
module _ (lengths_of : ℕ → List ℕ) (f : Floor) (s : List ℕ) (k : Cursor) (entry list : List ℕ) (st : Result Cursor Refusal)
    (w : Wrote (into (put_row cell) (many (field (first_bits f.multiplier)) 2 s (position k)) (table entry 0)) st (table list 2)) where
  pub used_refused : {z : Refusal} → st ≡ Err z → (u : List ℕ) → Wrote (mapped (sets entry 0) (used_values lengths_of f s (position k))) (Err z) u
  unfolding into mapped used_values
  used_refused q u = wrote_refused u (rw (mapped_bad _ (many (field (first_bits f.multiplier)) 2 s (position k)) (wrote_bad w q)))

  pub used_read : {k₁ : Cursor} → st ≡ Ok k₁ → {st₂ : Result Cursor Refusal} {list₂ : List ℕ}
      → Wrote (mapped (λ l. sets list 2 (rows whole l)) (each (partition_of lengths_of f) f.partitions s (position k₁))) st₂ list₂
      → Wrote (mapped (sets entry 0) (used_values lengths_of f s (position k))) st₂ list₂
  unfolding into used_values
  used_read {k₁} q w₂ =
      let m = mapped_ok (λ l. puts (put_row cell) l (table entry 0)) (many (field (first_bits f.multiplier)) 2 s (position k)) (wrote_ok w q) in
      let e : sets entry 0 m.0 ≡ list = ap (sets entry 0) (sym (rows_cell m.0)) ∙ ap (λ (t : Table). t.cells) (sym (puts-rows cell m.0 entry 0) ∙ m.2) in
      let n = many_number (field (first_bits f.multiplier)) s 2 (position k) m.1 in
      rw m.1 (wrote_as (after entry list m.0 e n (each (partition_of lengths_of f) f.partitions s (position k₁))) w₂)

-- a floor
module _ (lengths_of : ℕ → List ℕ) (f : Floor) (s : List ℕ) (k : Cursor) (r : Result (ℕ × Cursor) Refusal) (p : outcome r ≡ field 1 s (position k)) (entry : List ℕ) where
  pub floor_cut : {z : Refusal} → r ≡ Err z → bad (refusal_of z) ≡ mapped (answered_values entry) (floor_values lengths_of f s (position k))
  unfolding mapped floor_values
  floor_cut q = rw (refused_is p q)

  module _ {v : ℕ} {k₁ : Cursor} (q : r ≡ Ok (v, k₁)) where
    pub floor_unused : v ≡ 0 → mapped (with_values entry) (outcome (Ok (false, k₁))) ≡ mapped (answered_values entry) (floor_values lengths_of f s (position k))
    unfolding mapped outcome answered_values floor_values
    floor_unused z = rw (value_is p q, eq-eqb _ _ z)

    module _ (nonzero : v ≡ 0 → ⊥) {st : Result Cursor Refusal} {list : List ℕ} (w : Wrote (mapped (sets entry 0) (used_values lengths_of f s (position k₁))) st list) where
      pub floor_stopped : {z : Refusal} → st ≡ Err z → bad (refusal_of z) ≡ mapped (answered_values entry) (floor_values lengths_of f s (position k))
      unfolding mapped floor_values
      floor_stopped t = rw (value_is p q, ne_eqb _ _ nonzero, mapped_bad (sets entry 0) (used_values lengths_of f s (position k₁)) (wrote_bad w t))

      pub floor_used : {k₂ : Cursor} → st ≡ Ok k₂ → mapped (with_values list) (outcome (Ok (true, k₂))) ≡ mapped (answered_values entry) (floor_values lengths_of f s (position k))
      unfolding mapped outcome answered_values floor_values
      floor_used t =
          let m = mapped_ok (sets entry 0) (used_values lengths_of f s (position k₁)) (wrote_ok w t) in
          rw (value_is p q, ne_eqb _ _ nonzero, m.1, m.2)
