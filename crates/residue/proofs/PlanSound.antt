-- What is known of a plan's places and rows where they were accepted: refusal 11, the width of each field. Assumes nothing.
use Prim.Native.Nat.{ℕ, suc, ◌≤◌}
use native.Mathlib.Omega.{arith}
use borrow.Author.Tests.{ltb-true}
use mathlib.Core.Bool.{Bool, true, false, cond}
use mathlib.Core.List.{List}
use mathlib.Core.Path.{◌≡◌, sym, ap, ◌∙◌}
use lib.Dec.{eqb, ltb}
use lib.ListN.{length}
use Rattle.reading.specs.Outcome.{Outcome, ok, bad}
use Rattle.reading.specs.Reader.{judged, each, mapped}
use Rattle.reading.proofs.Outcomes.{judged-ok}
use Rattle.reading.proofs.Readers.{Long, each_long, mapped_ok}
use Rattle.bits.specs.Field.{field}
use Rattle.bits.proofs.Fields.{field-ok}
use Rattle.residue.specs.Reading.{passes, plan_book, plan_row}

-- a place that was read names a book that is set up, or nothing; a book's number has 8 bits
pub record PlaceSound (count v : ℕ) : Type 0 where
  pub set_up_is : v ≤ count
  pub small : v ≤ 256

pub place_sound : (count bit : ℕ) (s : List ℕ) (k : ℕ) {v n : ℕ} → plan_book count bit s k ≡ ok (v, n) → PlaceSound count v
unfolding plan_book
place_sound count bit s k {v} {n} e = go (eqb bit 0) e
  where
    go : (b : Bool) → cond b (ok (0, k)) (mapped suc (judged (λ v. ltb v count) 11 (field 8) s k)) ≡ ok (v, n) → PlaceSound count v
    go true f =
        let p : ◌≡◌ {A = ℕ × ℕ} (0, k) (v, n) = cc in
        let q : 0 ≡ v = ap (λ (x : ℕ × ℕ). x.0) p in
        record { set_up_is = omega arith; small = omega arith }
    go false f =
        let m = mapped_ok suc (judged (λ v. ltb v count) 11 (field 8) s k) f in
        let j = judged-ok (λ v. ltb v count) 11 (field 8) s k m.1 in
        let a = (field-ok s k 8 j.0).below in
        let b = ltb-true m.0 count j.1 in
        let q = m.2 in
        record { set_up_is = omega arith; small = omega arith }

-- a row that was read has 8 places
pub row_read_long : (count c : ℕ) (s : List ℕ) (k : ℕ) {row : List ℕ} {n : ℕ} → plan_row count c s k ≡ ok (row, n) → length row ≡ 8
unfolding plan_row
row_read_long count c s k {row} {n} e = go (each (plan_book count) (passes c) s k) (each_long (plan_book count) (passes c) s k) e
  where
    go : (o : Outcome (List ℕ × ℕ)) → Long 8 o → o ≡ ok (row, n) → length row ≡ 8
    go (ok x) h f = let g : x ≡ (row, n) = cc in sym (ap (λ (y : List ℕ × ℕ). length y.0) g) ∙ h
    go (bad z) h f = let g : ◌≡◌ {A = ℕ} 0 1 = cc in absurd (omega arith)
