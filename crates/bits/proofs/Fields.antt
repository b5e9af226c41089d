-- Laws of reading a field: whole or cut and never both, its value, where it ends, two reads in a row. Assumes nothing.
use Prim.Native.Nat.{ℕ, ◌+◌, ◌*◌, ◌^◌, ◌≤◌, ◌<◌}
use native.Mathlib.Omega.{arith}
use mathlib.Core.List.{List}
use mathlib.Core.Path.{◌≡◌, refl, ap, sym, ◌∙◌}
use mathlib.Core.Bool.{Bool, true, false}
use lib.ListN.{length}
use lib.Dec.{leb}
use borrow.Author.Tests.{le-leb, lt-leb, leb-true, leb-false}
use Rattle.reading.specs.Outcome.{Refusal, refusal, ok, bad, need}
use Rattle.bits.specs.Field.{value_at, field}
use Rattle.bits.proofs.Values.{value_lt, value_add}

-- what is known of a field that is whole, and of one that is cut
pub record Whole (s : List ℕ) (k w v n : ℕ) : Type 0 where
  pub value : v ≡ value_at s k w
  pub next : n ≡ k + w
  pub within : n ≤ 8 * length s
  pub below : v < 2 ^ w

pub record Cut (s : List ℕ) (k w : ℕ) (z : Refusal) : Type 0 where
  pub why : z ≡ refusal 1 k
  pub past : 8 * length s < k + w

module _ (s : List ℕ) (k w : ℕ) where
  pub field_whole : k + w ≤ 8 * length s → field w s k ≡ ok (value_at s k w, k + w)
  unfolding field
  field_whole h = rw (le-leb _ _ h)

  pub field_cut : 8 * length s < k + w → field w s k ≡ bad (refusal 1 k)
  unfolding field
  field_cut h = rw (lt-leb _ _ h)

  pub field-ok : {v n : ℕ} → field w s k ≡ ok (v, n) → Whole s k w v n
  unfolding field
  field-ok {v} {n} e = go (leb (k + w) (8 * length s)) refl e
    where
      known : ◌≡◌ {A = ℕ × ℕ} (value_at s k w, k + w) (v, n) → k + w ≤ 8 * length s → Whole s k w v n
      known p h =
          let a : v ≡ value_at s k w = ap (λ (x : ℕ × ℕ). x.0) (sym p) in
          let b : n ≡ k + w = ap (λ (x : ℕ × ℕ). x.1) (sym p) in
          record { value = a; next = b; within = omega arith; below = rw a (value_lt s k w) }

      go : (b : Bool) → leb (k + w) (8 * length s) ≡ b → need {A = ℕ × ℕ} b (refusal 1 k) (ok (value_at s k w, k + w)) ≡ ok (v, n) → Whole s k w v n
      go true p q = known (cc) (leb-true _ _ p)
      go false p q = let z : ◌≡◌ {A = ℕ} 0 1 = cc in absurd (omega arith)

  pub field-bad : {z : Refusal} → field w s k ≡ bad z → Cut s k w z
  unfolding field
  field-bad {z} e = go (leb (k + w) (8 * length s)) refl e
    where
      go : (b : Bool) → leb (k + w) (8 * length s) ≡ b → need {A = ℕ × ℕ} b (refusal 1 k) (ok (value_at s k w, k + w)) ≡ bad z → Cut s k w z
      go true p q = let x : ◌≡◌ {A = ℕ} 0 1 = cc in absurd (omega arith)
      go false p q = record { why = cc; past = leb-false _ _ p }

module _ (s : List ℕ) where
  -- reading m and then n bits is reading m + n
  pub field_join : (k m n : ℕ) {v w j i : ℕ} → field m s k ≡ ok (v, j) → field n s j ≡ ok (w, i) → field (m + n) s k ≡ ok (v + w * 2 ^ m, i)
  field_join k m n {v} {w} {j} {i} p q =
      let a = field-ok s k m p in
      let b = field-ok s j n q in
      let e : k + (m + n) ≡ i = omega arith in
      let f : value_at s k (m + n) ≡ v + w * 2 ^ m = value_add s k m n ∙ rw (a.value, b.value, a.next) in
      field_whole s k (m + n) (omega arith) ∙ rw (e, f)

  -- and where either is cut, both together are
  pub field_join_cut : (k m n : ℕ) {z : Refusal} → field m s k ≡ bad z → field (m + n) s k ≡ bad (refusal 1 k)
  field_join_cut k m n p = let a = field-bad s k m p in field_cut s k (m + n) (omega arith)

  pub field_join_cut_later : (k m n : ℕ) {v j : ℕ} {z : Refusal} → field m s k ≡ ok (v, j) → field n s j ≡ bad z → field (m + n) s k ≡ bad (refusal 1 k)
  field_join_cut_later k m n {v} {j} p q =
      let a = field-ok s k m p in
      let b = field-bad s j n q in
      field_cut s k (m + n) (omega arith)
