-- What an answer of `field` says of the definition, as callers ask it. Assumes nothing.
use Rattle.std.specs.Prelude.{Result, Ok, Err, IsErrAnd}
use Rattle.std.proofs.lemmas.Result.{err_from_is_err_and}
use Prim.Native.Nat.{ℕ, ◌+◌, ◌*◌, ◌^◌, ◌≤◌, ◌<◌}
use mathlib.Core.List.{List}
use mathlib.Core.Path.{◌≡◌, sym, ap, ◌∙◌}
use lib.ListN.{length}
use Rattle.reading.specs.Outcome.{Outcome, ok, bad}
use Rattle.bits.specs.declared.Cursor.{Cursor}
use Rattle.bits.specs.declared.refusal.Refusal.{Refusal}
use Rattle.bits.specs.Inner.Cursors.{position, refusal_of, outcome, stepped, Wrote}
use Rattle.bits.specs.Field.{value_at, field}
use Rattle.bits.specs.Reasons.{number}
use Rattle.bits.proofs.Fields.{field_whole, field_cut, field-ok}

module _ {A : Type 0} {r : Result (A × Cursor) Refusal} {o : Outcome (A × ℕ)} where
  pub value_is : {v : A} {c : Cursor} → outcome r ≡ o → r ≡ Ok (v, c) → o ≡ ok (v, position c)
  unfolding outcome
  value_is p q = sym p ∙ ap outcome q

  pub refused_is : {z : Refusal} → outcome r ≡ o → r ≡ Err z → o ≡ bad (refusal_of z)
  unfolding outcome
  refused_is p q = sym p ∙ ap outcome q

-- a value that was read is below 2 ^ w
pub value_below : {r : Result (ℕ × Cursor) Refusal} (w : ℕ) (s : List ℕ) (k : ℕ) {v : ℕ} {c : Cursor} → outcome r ≡ field w s k → r ≡ Ok (v, c) → v < 2 ^ w
value_below w s k p q = (field-ok s k w (value_is p q)).below

-- as a byte's cast asks it
pub byte_below : (s : List ℕ) (k : Cursor) {r : Result (ℕ × Cursor) Refusal} {v : ℕ} {c : Cursor} → outcome r ≡ field 8 s (position k) → r ≡ Ok (v, c) → v < 256
byte_below s k p q = value_below 8 s (position k) p q

-- the two ways out of reading at a cursor
module _ (s : List ℕ) (c : Cursor) (w : ℕ) where
  pub cut_here : (z : Refusal) → number z.reason ≡ 1 → z.place ≡ c → 8 * length s < position c + w → outcome (Err z) ≡ field w s (position c)
  unfolding outcome
  cut_here z e f h = rw (field_cut s (position c) w h, e, f)

  pub value_here : (v : ℕ) (n : Cursor) → position c + w ≤ 8 * length s → v ≡ value_at s (position c) w → position n ≡ position c + w
      → outcome (Ok (v, n)) ≡ field w s (position c)
  unfolding outcome
  value_here v n h e f = rw (field_whole s (position c) w h, e, f)

-- what the exit of a `?` returns, in each form that a contract has: r is the refusal z of what was called
module _ {A : Type 0} (r : Result A Refusal) (z : Refusal) where
  pub sent_back : IsErrAnd r (λ y. y ≡ z) → r ≡ Err z
  sent_back b = let p = err_from_is_err_and r b in p.1 ∙ ap Err p.2

pub outcome_back : {A : Type 0} (r : Result (A × Cursor) Refusal) (z : Refusal) {o : Outcome (A × ℕ)} → IsErrAnd r (λ y. y ≡ z) → outcome (Err z) ≡ o → outcome r ≡ o
outcome_back r z b e = ap outcome (sent_back r z b) ∙ e

pub stepped_back : (r : Result Cursor Refusal) (z : Refusal) {o : Outcome ℕ} → IsErrAnd r (λ y. y ≡ z) → stepped (Err z) ≡ o → stepped r ≡ o
stepped_back r z b e = ap stepped (sent_back r z b) ∙ e

pub wrote_back : {T : Type 0} {o : Outcome (T × ℕ)} (r : Result Cursor Refusal) (z : Refusal) {t : T} → IsErrAnd r (λ y. y ≡ z) → Wrote o (Err z) t → Wrote o r t
wrote_back r z b w = rw (sent_back r z b) w
