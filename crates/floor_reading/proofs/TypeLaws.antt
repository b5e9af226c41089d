-- Laws of reading a floor's type, as the code asks them: one for each way out. Assumes nothing.
use Rattle.std.specs.Prelude.{Result, Ok, Err}
use Prim.Native.Nat.{ℕ, ◌≤◌, ◌<◌}
use borrow.Author.Tests.{le-leb, lt-leb, eq-eqb, ne_eqb}
use mathlib.Core.List.{List}
use mathlib.Core.Path.{◌≡◌}
use Rattle.bits.specs.declared.Cursor.{Cursor}
use Rattle.bits.specs.declared.refusal.Refusal.{Refusal}
use Rattle.bits.specs.declared.refusal.Reason.TheVariants as R
use Rattle.bits.specs.Inner.Cursors.{position, outcome}
use Rattle.bits.specs.Field.{field}
use Rattle.bits.proofs.Answers.{value_is, refused_is}
use Rattle.floor.specs.Reading.{floor_type}

-- the type
module _ (s : List ℕ) (k : Cursor) {r : Result (ℕ × Cursor) Refusal} (p : outcome r ≡ field 16 s (position k)) where
  pub type_cut : {z : Refusal} → r ≡ Err z → outcome (Err z) ≡ floor_type s (position k)
  unfolding floor_type outcome
  type_cut q = rw (refused_is p q)

  module _ {v : ℕ} {k₁ : Cursor} (q : r ≡ Ok (v, k₁)) where
    pub type_zero : v ≡ 0 → outcome (Err (record { reason = R.Limit; place = k })) ≡ floor_type s (position k)
    unfolding floor_type outcome
    type_zero e = rw (value_is p q, eq-eqb _ _ e)

    pub type_high : (v ≡ 0 → ⊥) → 1 < v → outcome (Err (record { reason = R.UnknownType; place = k })) ≡ floor_type s (position k)
    unfolding floor_type outcome
    type_high n h = rw (value_is p q, ne_eqb _ _ n, lt-leb _ _ h)

    pub type_one : (v ≡ 0 → ⊥) → v ≤ 1 → outcome (Ok (v, k₁)) ≡ floor_type s (position k)
    unfolding floor_type outcome
    type_one n h = rw (value_is p q, ne_eqb _ _ n, le-leb _ _ h)
