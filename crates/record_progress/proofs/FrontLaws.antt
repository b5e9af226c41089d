-- What is known of the bytes from a record on by what stands at their front. Assumes nothing.
use Prim.Native.Nat.{ℕ, ◌+◌, ◌≤◌, ◌<◌}
use native.Mathlib.Omega.{arith}
use mathlib.Core.Bool.{Bool, true, false, cond}
use mathlib.Core.List.{List}
use mathlib.Core.Logic.{◌⊎◌, inl, inr}
use mathlib.Core.Path.{◌≡◌, refl}
use lib.Dec.{ltb}
use borrow.Author.Tests.{ltb-true, ltb-false}
use lib.ListN.{length}
use Rattle.records.specs.Records.{body_length, kind, is_torn, is_too_long}
use Rattle.records.specs.declared.Front.TheVariants.{Partial, TooLong, Whole}
use Rattle.records.specs.Inner.Fronts.{front}

-- the tests that led to a case
module _ (k : ℕ) (m : ℕ) (j : ℕ) (n : ℕ) where
  too_long_tests : (a b c : Bool) → TooLong n ≡ cond a Partial (cond b (TooLong m) (cond c Partial (Whole k m))) → (a ≡ false) × (b ≡ true) × (n ≡ m)
  too_long_tests true b c e = let z : ◌≡◌ {A = ℕ} 0 1 = cc in absurd (omega arith)
  too_long_tests false true c e = (refl, refl, cc)
  too_long_tests false false true e = let z : ◌≡◌ {A = ℕ} 0 1 = cc in absurd (omega arith)
  too_long_tests false false false e = let z : ◌≡◌ {A = ℕ} 0 1 = cc in absurd (omega arith)

  whole_tests : (a b c : Bool) → Whole j n ≡ cond a Partial (cond b (TooLong m) (cond c Partial (Whole k m))) → (a ≡ false) × (b ≡ false) × (c ≡ false) × (j ≡ k) × (n ≡ m)
  whole_tests true b c e = let z : ◌≡◌ {A = ℕ} 0 1 = cc in absurd (omega arith)
  whole_tests false true c e = let z : ◌≡◌ {A = ℕ} 0 1 = cc in absurd (omega arith)
  whole_tests false false true e = let z : ◌≡◌ {A = ℕ} 0 1 = cc in absurd (omega arith)
  whole_tests false false false e = (refl, refl, refl, cc, cc)

  partial_tests : (a b c : Bool) → Partial ≡ cond a Partial (cond b (TooLong m) (cond c Partial (Whole k m))) → (a ≡ true) ⊎ ((a ≡ false) × (b ≡ false) × (c ≡ true))
  partial_tests true b c e = inl refl
  partial_tests false true c e = let z : ◌≡◌ {A = ℕ} 0 1 = cc in absurd (omega arith)
  partial_tests false false true e = inr (refl, refl, refl)
  partial_tests false false false e = let z : ◌≡◌ {A = ℕ} 0 1 = cc in absurd (omega arith)

-- the head of a record that is too long
pub record HeadTooLong (s : List ℕ) (n : ℕ) : Type 0 where
  pub head : 6 ≤ length s
  pub length_is : n ≡ body_length s
  pub many : 49152 < body_length s

-- a whole record
pub record IsWhole (s : List ℕ) (k n : ℕ) : Type 0 where
  pub head : 6 ≤ length s
  pub kind_is : k ≡ kind s
  pub length_is : n ≡ body_length s
  pub few : body_length s ≤ 49152
  pub there : 6 + body_length s ≤ length s

module _ (s : List ℕ) where
  pub too_long_of : {n : ℕ} → TooLong n ≡ front s → HeadTooLong s n
  unfolding front is_too_long
  too_long_of {n} e =
      let w = too_long_tests (kind s) (body_length s) 0 n (ltb (length s) 6) (ltb 49152 (body_length s)) (ltb (length s) (6 + body_length s)) e in
      record { head = ltb-false (length s) 6 w.0; length_is = w.2; many = ltb-true 49152 (body_length s) w.1 }

  pub whole_of : {k n : ℕ} → Whole k n ≡ front s → IsWhole s k n
  unfolding front is_too_long
  whole_of {k} {n} e =
      let w = whole_tests (kind s) (body_length s) k n (ltb (length s) 6) (ltb 49152 (body_length s)) (ltb (length s) (6 + body_length s)) e in
      record {
        head = ltb-false (length s) 6 w.0;
        kind_is = w.3;
        length_is = w.4;
        few = ltb-false 49152 (body_length s) w.1;
        there = ltb-false (length s) (6 + body_length s) w.2;
      }

  -- less than a record is torn, where the input ends there, and short
  pub partial_of : Partial ≡ front s → (is_torn s ≡ true) × (length s < 49158)
  unfolding front is_too_long is_torn
  partial_of e = cases (partial_tests (kind s) (body_length s) 0 0 (ltb (length s) 6) (ltb 49152 (body_length s)) (ltb (length s) (6 + body_length s)) e)
    where
      cases : ((ltb (length s) 6 ≡ true) ⊎ ((ltb (length s) 6 ≡ false) × (ltb 49152 (body_length s) ≡ false) × (ltb (length s) (6 + body_length s) ≡ true)))
          → (is_torn s ≡ true) × (length s < 49158)
      cases (inl a) = let f = ltb-true (length s) 6 a in (rw a refl, omega arith)
      cases (inr w) =
          let f = ltb-false 49152 (body_length s) w.1 in
          let g = ltb-true (length s) (6 + body_length s) w.2 in
          (rw (w.0, w.2) refl, omega arith)
