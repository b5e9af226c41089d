-- What an answer beside buffers says of the definition, as callers ask it, and the exit of a `?` there. Assumes nothing.
use Rattle.std.specs.Prelude.{Result, Ok, Err, IsErrAnd}
use Prim.Native.Nat.{ℕ}
use mathlib.Core.Path.{◌≡◌, sym, ap, ◌∙◌}
use Rattle.reading.specs.Outcome.{Outcome, ok, bad}
use Rattle.bits.specs.declared.Cursor.{Cursor}
use Rattle.bits.specs.declared.refusal.Refusal.{Refusal}
use Rattle.bits.specs.Inner.Cursors.{position, refusal_of}
use Rattle.bits.proofs.Answers.{sent_back}
use Rattle.book.specs.Inner.Answers.{answered}

module _ {A T : Type 0} (f : A → T) {r : Result (A × Cursor) Refusal} {o : Outcome (T × ℕ)} where
  pub answered_ok : {v : A} {c : Cursor} → answered f r ≡ o → r ≡ Ok (v, c) → o ≡ ok (f v, position c)
  unfolding answered
  answered_ok p q = sym p ∙ ap (answered f) q

  pub answered_bad : {z : Refusal} → answered f r ≡ o → r ≡ Err z → o ≡ bad (refusal_of z)
  unfolding answered
  answered_bad p q = sym p ∙ ap (answered f) q

-- an answer, from what the definition gives
module _ {A T : Type 0} (f : A → T) {o : Outcome (T × ℕ)} where
  pub answers_ok : {v : A} (c : Cursor) → o ≡ ok (f v, position c) → answered f (Ok (v, c)) ≡ o
  unfolding answered
  answers_ok c p = sym p

  pub answers_bad : (z : Refusal) → o ≡ bad (refusal_of z) → answered f (Err z) ≡ o
  unfolding answered
  answers_bad z p = sym p

  pub answered_back : (r : Result (A × Cursor) Refusal) (z : Refusal) → IsErrAnd r (λ y. y ≡ z) → o ≡ bad (refusal_of z) → answered f r ≡ o
  answered_back r z b p = ap (answered f) (sent_back r z b) ∙ answers_bad z p
