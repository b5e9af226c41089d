-- What an answer says of the definition where more than the answer was read and lies in buffers, as f says of the answer and g of what was read.
-- Assumes nothing.
use Rattle.std.specs.Prelude.{Result, Ok, Err, IsErrAnd}
use Prim.Native.Nat.{ℕ}
use mathlib.Core.Path.{◌≡◌, sym, ap, ◌∙◌}
use Rattle.reading.specs.Outcome.{Outcome, ok, bad}
use Rattle.reading.specs.Reader.{mapped}
use Rattle.reading.proofs.Readers.{mapped_bad}
use Rattle.bits.specs.declared.Cursor.{Cursor}
use Rattle.bits.specs.declared.refusal.Refusal.{Refusal}
use Rattle.bits.specs.Inner.Cursors.{position, refusal_of, outcome}
use Rattle.bits.proofs.Answers.{sent_back}

module _ {A B T : Type 0} (f : A → T) (g : B → T) {r : Result (A × Cursor) Refusal} (o : Outcome (B × ℕ)) (e : mapped f (outcome r) ≡ mapped g o) where
  pub beside_bad : {z : Refusal} → r ≡ Err z → o ≡ bad (refusal_of z)
  unfolding outcome mapped
  beside_bad {z} q =
      let b : mapped g o ≡ bad (refusal_of z) = sym e ∙ ap (λ (x : Result (A × Cursor) Refusal). mapped f (outcome x)) q in
      mapped_bad g o b

  pub beside_ok : {a : A} {c : Cursor} → r ≡ Ok (a, c) → mapped g o ≡ ok (f a, position c)
  unfolding outcome mapped
  beside_ok q = sym e ∙ ap (λ (x : Result (A × Cursor) Refusal). mapped f (outcome x)) q

-- what the exit of a `?` returns: r is the refusal z of what was called
pub beside_back : {A T : Type 0} (f : A → T) (r : Result (A × Cursor) Refusal) (z : Refusal) {o : Outcome (T × ℕ)} → IsErrAnd r (λ y. y ≡ z) → bad (refusal_of z) ≡ o → mapped f (outcome r) ≡ o
unfolding outcome mapped
beside_back {A} f r z b e = ap (λ (x : Result (A × Cursor) Refusal). mapped f (outcome x)) (sent_back r z b) ∙ e
