-- Laws of functions that read a content and lay it into cleared tables: what an answer says of the definition, how an answer is shown, and the
-- tables of a section's items. Assumes nothing.
use Rattle.std.specs.Prelude.{Result, Ok, Err, IsErrAnd}
use Prim.Native.Nat.{ℕ}
use native.Mathlib.Omega.{arith}
use mathlib.Core.List.{List}
use mathlib.Core.Path.{◌≡◌, refl, sym, ap, subst, ◌∙◌}
use lib.ListN.{length}
use lib.Seq.{sets}
use Rattle.reading.specs.Outcome.{Outcome, ok, bad, then}
use Rattle.reading.specs.Reader.{mapped, puts}
use Rattle.reading.specs.Lists.{rows}
use Rattle.reading.specs.Pad.{pad}
use Rattle.reading.specs.Encoding.{Zeros}
use Rattle.reading.specs.Inner.Table.{Table, table, put_row}
use Rattle.reading.proofs.Outcomes.{same_ok}
use Rattle.reading.proofs.Tables.{puts-rows, sets_cleared}
use Rattle.bits.specs.declared.Cursor.{Cursor}
use Rattle.bits.specs.declared.refusal.Refusal.{Refusal}
use Rattle.bits.specs.Inner.Cursors.{position, refusal_of, outcome, stepped, Wrote}
use Rattle.bits.proofs.Answers.{sent_back}
use Rattle.setup.specs.Inner.Parts.{ReadInto, ReadCounted}

module _ {C : Type 0} {o : Outcome (C × ℕ)} {Stored : C → Type 0} where
  -- what an answer says
  pub read_into_bad : {r : Result Cursor Refusal} {z : Refusal} → ReadInto o r Stored → r ≡ Err z → o ≡ bad (refusal_of z)
  unfolding stepped
  read_into_bad {r} {z} l q = go o (ap stepped (sym q) ∙ l.step)
    where
      go : (o : Outcome (C × ℕ)) → bad (refusal_of z) ≡ then o (λ x. ok x.1) → o ≡ bad (refusal_of z)
      go (ok x) e = let n : ◌≡◌ {A = ℕ} 0 1 = cc in absurd (omega arith)
      go (bad y) e = sym (cc)

  pub read_into_ok : {r : Result Cursor Refusal} {c : Cursor} → ReadInto o r Stored → r ≡ Ok c → (a : C) × (o ≡ ok (a, position c)) × Stored a
  unfolding stepped
  read_into_ok {r} {c} l q = go o (ap stepped (sym q) ∙ l.step) l.stored
    where
      go : (o : Outcome (C × ℕ)) → ok (position c) ≡ then o (λ x. ok x.1) → ((x : C × ℕ) → o ≡ ok x → Stored x.0) → (a : C) × (o ≡ ok (a, position c)) × Stored a
      go (ok x) e v = let p : x.1 ≡ position c = cc in (x.0, (λ j. ok (x.0, p j)), v x refl)
      go (bad y) e v = let n : ◌≡◌ {A = ℕ} 0 1 = cc in absurd (omega arith)

  -- how an answer is shown
  pub read_into_refused : {z : Refusal} → o ≡ bad (refusal_of z) → ReadInto o (Err z) Stored
  unfolding stepped
  read_into_refused e = record { step = rw e; stored = λ x f. let n : ◌≡◌ {A = ℕ} 0 1 = cc in absurd (omega arith) }

  pub read_into_next : {a : C} {c : Cursor} → o ≡ ok (a, position c) → Stored a → ReadInto o (Ok c) Stored
  unfolding stepped
  read_into_next {a} {c} e l =
      record { step = rw e; stored = λ x f. subst (λ (y : C × ℕ). Stored y.0) (same_ok o e f) l }

-- the exit of a `?`: r is the refusal z of what was called
pub read_into_back : {C : Type 0} {o : Outcome (C × ℕ)} (r : Result Cursor Refusal) (z : Refusal) {Stored : C → Type 0} → IsErrAnd r (λ y. y ≡ z) → ReadInto o (Err z) Stored → ReadInto o r Stored
read_into_back r z b l = rw (sent_back r z b) l

module _ {V C : Type 0} {o : Outcome (C × ℕ)} {Stored : V → C → Type 0} where
  -- the same of answers with a number
  pub read_counted_back : (r : Result (V × Cursor) Refusal) (z : Refusal) → IsErrAnd r (λ y. y ≡ z) → ReadCounted o (Err z) Stored → ReadCounted o r Stored
  read_counted_back r z b l = rw (sent_back r z b) l

  pub counted : (v : V) {c : Cursor} → ReadInto o (Ok c) (Stored v) → ReadCounted o (Ok (v, c)) Stored
  unfolding outcome stepped
  counted v {c} l =
      record {
        step = l.step;
        stored = λ w d q x e. let pair : ◌≡◌ {A = V × Cursor} (v, c) (w, d) = cc in let p : v ≡ w = ap (λ (y : V × Cursor). y.0) pair in subst (λ (n : V). Stored n x.0) p (l.stored x e);
      }

  pub counted_read : {v : V} {c : Cursor} {a : C} → o ≡ ok (a, position c) → Stored v a → ReadCounted o (Ok (v, c)) Stored
  unfolding outcome
  counted_read {v} {c} {a} e l =
      record {
        step = rw e;
        stored = λ w d q x f. let pair : ◌≡◌ {A = V × Cursor} (v, c) (w, d) = cc in let p : v ≡ w = ap (λ (y : V × Cursor). y.0) pair in subst (λ (n : V). Stored n x.0) p (subst (λ (y : C × ℕ). Stored v y.0) (same_ok o e f) l);
      }

  pub counted_refused : {z : Refusal} → o ≡ bad (refusal_of z) → ReadCounted o (Err z) Stored
  unfolding outcome
  counted_refused e = record { step = rw e; stored = λ w d q x f. let n : ◌≡◌ {A = ℕ} 0 1 = cc in absurd (omega arith) }

  -- a part that was not read: what else it may answer
  pub counted_stop : {z : Refusal} {Other : C → Type 0} → ReadInto o (Err z) Other → ReadCounted o (Err z) Stored
  counted_stop l = counted_refused (read_into_bad l refl)

  pub counted_bad : {z : Refusal} → ReadCounted o (Err z) Stored → o ≡ bad (refusal_of z)
  unfolding outcome
  counted_bad {z} l = go o l.step
    where
      go : (o : Outcome (C × ℕ)) → bad (refusal_of z) ≡ then o (λ x. ok x.1) → o ≡ bad (refusal_of z)
      go (ok x) e = let n : ◌≡◌ {A = ℕ} 0 1 = cc in absurd (omega arith)
      go (bad y) e = sym (cc)

  pub counted_ok : {v : V} {c : Cursor} → ReadCounted o (Ok (v, c)) Stored → (a : C) × (o ≡ ok (a, position c)) × Stored v a
  unfolding outcome
  counted_ok {v} {c} l = go o l.step (l.stored v c refl)
    where
      go : (o : Outcome (C × ℕ)) → ok (position c) ≡ then o (λ x. ok x.1) → ((x : C × ℕ) → o ≡ ok x → Stored v x.0) → (a : C) × (o ≡ ok (a, position c)) × Stored v a
      go (ok x) e s = let p : x.1 ≡ position c = cc in (x.0, (λ j. ok (x.0, p j)), s x refl)
      go (bad y) e s = let n : ◌≡◌ {A = ℕ} 0 1 = cc in absurd (omega arith)

-- from what was written to how it lies: f is the writing
pub read_into_wrote : {C T : Type 0} (f : C → T) (o : Outcome (C × ℕ)) {r : Result Cursor Refusal} {t : T} {Stored : C → Type 0} → Wrote (mapped f o) r t
    → ((a : C) (k : ℕ) → o ≡ ok (a, k) → f a ≡ t → Stored a) → ReadInto o r Stored
unfolding mapped
read_into_wrote {C} {T} f o {r} {t} {Stored} w stored = go o refl w
  where
    go : (o' : Outcome (C × ℕ)) → o ≡ o' → Wrote (mapped f o') r t → ReadInto o' r Stored
    go (ok x) e v =
        record {
          step = v.step;
          stored = λ y g. let p : x ≡ y = cc in subst (λ (z : C × ℕ). Stored z.0) p (stored x.0 x.1 e (v.value (f x.0, x.1) refl));
        }
    go (bad z) e v = record { step = v.step; stored = λ y g. let n : ◌≡◌ {A = ℕ} 0 1 = cc in absurd (omega arith) }

-- rows put into a cleared table
pub rows_stored : {A : Type 0} (row : A → List ℕ) (items : List A) (entry : List ℕ) {exit : List ℕ} {m : ℕ} → Zeros entry
    → puts (put_row row) items (table entry 0) ≡ table exit m → exit ≡ pad (length entry) (rows row items)
rows_stored row items entry z e =
    sym (ap (λ (t : Table). t.cells) e)
    ∙ ap (λ (t : Table). t.cells) (puts-rows row items entry 0)
    ∙ ap (λ (l : List ℕ). sets l 0 (rows row items)) z
    ∙ sets_cleared (length entry) (rows row items)
