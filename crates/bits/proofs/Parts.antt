-- What a function read or wrote, under a function of it; and a lent part, written back into its table. By cases on the outcome. Assumes nothing.
use Rattle.bits.specs.declared.refusal.Refusal.{Refusal}
use Rattle.bits.specs.declared.Cursor.{Cursor}
use Rattle.std.specs.Prelude.{Result}
use Prim.Native.Nat.{ℕ, ◌+◌, ◌≤◌}
use native.Mathlib.Omega.{arith}
use mathlib.Core.List.{List, ◌++◌, append_assoc}
use mathlib.Core.Path.{◌≡◌, refl, ap, ◌∙◌}
use lib.ListN.{length, take, drop}
use lib.Seq.{sets, sets-eq, drop-drop}
use Rattle.reading.specs.Outcome.{Outcome, ok, bad, then}
use Rattle.reading.specs.Reader.{mapped}
use Rattle.bits.specs.Inner.Cursors.{stepped, Wrote}

pub mapped-then : {A B C : Type 0} (g : B → C) (f : A → B) (o : Outcome (A × ℕ)) → mapped g (then o (λ x. ok (f x.0, x.1))) ≡ mapped (λ a. g (f a)) o
unfolding mapped
mapped-then g f (ok x) = refl
mapped-then g f (bad z) = refl

pub mapped-mapped : {A B C : Type 0} (g : B → C) (f : A → B) (o : Outcome (A × ℕ)) → mapped g (mapped f o) ≡ mapped (λ a. g (f a)) o
unfolding mapped
mapped-mapped g f (ok x) = refl
mapped-mapped g f (bad z) = refl

-- an answer under a function of what was written
module _ {T U : Type 0} (f : T → U) where
  pub wrote_mapped : {o : Outcome (T × ℕ)} {r : Result Cursor Refusal} {t : T} → Wrote o r t → Wrote (mapped f o) r (f t)
  unfolding mapped
  wrote_mapped {o} {r} {t} w = go o w.step w.value
    where
      go : (o : Outcome (T × ℕ)) → stepped r ≡ then o (λ x. ok x.1) → ((x : T × ℕ) → o ≡ ok x → x.0 ≡ t) → Wrote (mapped f o) r (f t)
      go (ok x) e v = record { step = e; value = λ y q. let p : y.0 ≡ f x.0 = cc in p ∙ ap f (v x refl) }
      go (bad z) e v = record { step = e; value = λ y q. let n : ◌≡◌ {A = ℕ} 0 1 = cc in absurd (omega arith) }

pub wrote_as : {T : Type 0} {o o' : Outcome (T × ℕ)} {r : Result Cursor Refusal} {t t' : T} → o ≡ o' → t ≡ t' → Wrote o r t → Wrote o' r t'
wrote_as {T} {o} {o'} {r} {t} {t'} e f w = rw (← e, ← f) w

-- a part of a table, written back
pub part_back : (m : List ℕ) (first : ℕ) (part : List ℕ) → first + length part ≤ length m → sets m first part ≡ take first m ++ (part ++ drop (length part) (drop first m))
part_back m first part h = sets-eq part m first h ∙ append_assoc (take first m) part (drop (first + length part) m) ∙ rw drop-drop
