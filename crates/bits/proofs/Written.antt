-- What a function that answers a step says of what it read, where its contract is `Wrote (mapped f o) ..`: the reading o came to a value whose
-- image is what was written, or it was refused. Assumes nothing.
use Rattle.std.specs.Prelude.{Result, Ok, Err}
use Prim.Native.Nat.{ℕ}
use native.Mathlib.Omega.{arith}
use mathlib.Core.Path.{◌≡◌, refl, sym, ap, ◌∙◌}
use Rattle.reading.specs.Outcome.{Outcome, ok, bad}
use Rattle.reading.specs.Reader.{mapped}
use Rattle.reading.proofs.Readers.{mapped_bad, mapped_ok}
use Rattle.bits.specs.declared.Cursor.{Cursor}
use Rattle.bits.specs.declared.refusal.Refusal.{Refusal}
use Rattle.bits.specs.Inner.Cursors.{position, refusal_of, Wrote}
use Rattle.bits.proofs.Steps.{wrote_bad, wrote_ok}

-- the reading o came to a value, which f made into t
pub record Got {A T : Type 0} (f : A → T) (o : Outcome (A × ℕ)) (k : ℕ) (t : T) : Type 0 where
  pub value : A
  pub read : o ≡ ok (value, k)
  pub made : f value ≡ t

module _ {A T : Type 0} (f : A → T) (o : Outcome (A × ℕ)) {r : Result Cursor Refusal} {t : T} (w : Wrote (mapped f o) r t) where
  pub got : {c : Cursor} → r ≡ Ok c → Got f o (position c) t
  got q = let m = mapped_ok f o (wrote_ok w q) in record { value = m.0; read = m.1; made = m.2 }

  pub stopped : {z : Refusal} → r ≡ Err z → o ≡ bad (refusal_of z)
  stopped q = mapped_bad f o (wrote_bad w q)

-- what is made of what was made
pub wrote_through : {A T U : Type 0} (f : A → T) (g : T → U) (h : A → U) → ((a : A) → g (f a) ≡ h a) → (o : Outcome (A × ℕ)) {r : Result Cursor Refusal} {t : T}
    → Wrote (mapped f o) r t → Wrote (mapped h o) r (g t)
unfolding mapped
wrote_through f g h same (ok x) w = record { step = w.step; value = λ y e. let p : (h x.0, x.1) ≡ y = cc in ap (λ z. z.0) (sym p) ∙ sym (same x.0) ∙ ap g (w.value (f x.0, x.1) refl) }
wrote_through f g h same (bad z) w = record { step = w.step; value = λ y e. let n : ◌≡◌ {A = ℕ} 0 1 = cc in absurd (omega arith) }
