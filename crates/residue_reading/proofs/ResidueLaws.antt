-- Laws of reading one residue and all of them, as the code asks them. Assumes nothing.
use Rattle.std.specs.Prelude.{Result, Ok, Err}
use Prim.Native.Nat.{ℕ, ◌+◌, ◌≤◌, ◌<◌}
use native.Mathlib.Omega.{arith}
use borrow.Author.Rules.{rules}
use mathlib.Core.List.{List}
use mathlib.Core.Path.{◌≡◌, refl, sym, ap, ◌∙◌}
use lib.ListN.{length, take}
use Rattle.reading.specs.Outcome.{Outcome, ok, bad}
use Rattle.reading.specs.Reader.{many, mapped, into, into1}
use Rattle.reading.proofs.Readers.{Long, many_long, mapped_ok, mapped_bad}
use Rattle.bits.specs.declared.Cursor.{Cursor}
use Rattle.bits.specs.declared.refusal.Refusal.{Refusal}
use Rattle.bits.specs.Inner.Cursors.{position, refusal_of, outcome, Wrote}
use Rattle.bits.proofs.Steps.{wrote_refused, Rest, loop_start, loop_next, loop_refused, loop_done}
use Rattle.residue.specs.Reading.{Books, Head, cascade, head, residue, residue_from}
use Rattle.residue.specs.Inner.FromTable.{books_of}
use Rattle.residue.specs.Inner.Heads.{head_of}
use Rattle.residue.specs.Layout.{Tables, put_residue}
use Rattle.residue.specs.Inner.Plans.{tables_at}
use Rattle.residue_reading.specs.Inner.Slots.{pad_with}
use Rattle.residue.specs.declared.head.Head as D
use Rattle.bits.proofs.Answers.{value_is, refused_is}
use Rattle.residue_reading.proofs.HeadLaws.{head_read}
use Rattle.residue_reading.proofs.SlotLaws.{length-pad_with, take_pad_with}
use Rattle.residue.proofs.HeadSound.{head_sound}

module _ {r : Result (D.Head × Cursor) Refusal} {o : Outcome (Head × ℕ)} (p : head_read r ≡ o) where
  head_is : {h : D.Head} {c : Cursor} → r ≡ Ok (h, c) → o ≡ ok (head_of h, position c)
  unfolding mapped outcome
  head_is q = sym p ∙ ap head_read q

  head_refused_is : {z : Refusal} → r ≡ Err z → o ≡ bad (refusal_of z)
  unfolding mapped outcome
  head_refused_is q = sym p ∙ ap head_read q

-- one residue
module _ (t : List ℕ) (count : ℕ) (s : List ℕ) (k : Cursor) (T U : Tables) {r : Result (D.Head × Cursor) Refusal} (p : head_read r ≡ head count s (position k)) where
  pub head_refused : {z : Refusal} → r ≡ Err z → Wrote (into1 put_residue (residue (books_of count t) s (position k)) T) (Err z) U
  unfolding residue into1 mapped
  head_refused q = wrote_refused U (rw (head_refused_is p q))

  module _ {h : D.Head} {k₁ : Cursor} (q : r ≡ Ok (h, k₁)) {a : Result (List ℕ × Cursor) Refusal}
      (w : outcome a ≡ mapped (pad_with 0 64) (many cascade h.classifications s (position k₁))) where
    pub cascades_refused : {z : Refusal} → a ≡ Err z → Wrote (into1 put_residue (residue (books_of count t) s (position k)) T) (Err z) U
    unfolding residue into1 mapped
    cascades_refused q₁ =
        wrote_refused U (rw (head_is p q, mapped_bad (pad_with 0 64) (many cascade h.classifications s (position k₁)) (refused_is w q₁)))

    pub residue_rest : {numbers : List ℕ} {k₂ : Cursor} → a ≡ Ok (numbers, k₂) → {st₂ : Result Cursor Refusal}
        → Wrote (into1 put_residue (residue_from (books_of count t) (position k) (head_of h) (take h.classifications numbers) s (position k₂)) T) st₂ U
        → Wrote (into1 put_residue (residue (books_of count t) s (position k)) T) st₂ U
    unfolding residue residue_from
    residue_rest {numbers} {k₂} q₁ x =
        let m = mapped_ok (pad_with 0 64) (many cascade h.classifications s (position k₁)) (value_is w q₁) in
        let few = (head_sound count s (position k) (head_is p q)).classifications.high in
        let l : length m.0 ≡ h.classifications = long (many cascade h.classifications s (position k₁)) (many_long cascade h.classifications s (position k₁)) m.1 in
        let f : take h.classifications numbers ≡ m.0 =
        ap (λ (j : ℕ). take j numbers) (sym l) ∙ ap (take (length m.0)) (sym m.2) ∙ take_pad_with 0 64 m.0 (omega arith) in
        rw (head_is p q, m.1, ← f) x
      where
        long : {l : List ℕ} {n : ℕ} (o : Outcome (List ℕ × ℕ)) → Long h.classifications o → o ≡ ok (l, n) → length l ≡ h.classifications
        long {l} {n} (ok y) a b = let g : y ≡ (l, n) = cc in sym (ap (λ (z : List ℕ × ℕ). length z.0) g) ∙ a
        long (bad z) a b = let g : ◌≡◌ {A = ℕ} 0 1 = cc in absurd (omega arith)

-- what the calls ask
pub classes_few : (count : ℕ) (s : List ℕ) (k : Cursor) {r : Result (D.Head × Cursor) Refusal} → head_read r ≡ head count s (position k) → {h : D.Head} {c : Cursor} → r ≡ Ok (h, c) → h.classifications ≤ 64
classes_few count s k p q = (head_sound count s (position k) (head_is p q)).classifications.high

pub cascades_long : (classes : ℕ) (s : List ℕ) (k : Cursor) {a : Result (List ℕ × Cursor) Refusal} → outcome a ≡ mapped (pad_with 0 64) (many cascade classes s (position k))
    → {numbers : List ℕ} {c : Cursor} → a ≡ Ok (numbers, c) → length numbers ≡ 64
cascades_long classes s k w q =
    let m = mapped_ok (pad_with 0 64) (many cascade classes s (position k)) (value_is w q) in
    sym (ap length m.2) ∙ length-pad_with 0 64 m.0

-- all residues
module _ (B : Books) (s : List ℕ) (n : ℕ) (k₀ : Cursor) (h₀ p₀ : List ℕ) where
  abbrev whole : Outcome (Tables × ℕ)
  whole = into put_residue (many (residue B) n s (position k₀)) (tables_at h₀ p₀ 0)

  pub record ReadingResidues (heads plans : List ℕ) (c : Cursor) (i : ℕ) : Type 0 where
    pub within : i ≤ n
    pub long : length heads ≡ length h₀
    pub long_plans : length plans ≡ length p₀
    pub rest : Rest put_residue (residue B) s n whole i c (tables_at heads plans i)

  pub residues_start : ReadingResidues h₀ p₀ k₀ 0
  residues_start = record { within = omega arith; long = refl; long_plans = refl; rest = loop_start put_residue (residue B) s n whole k₀ (tables_at h₀ p₀ 0) refl }

  module _ {heads plans : List ℕ} {c : Cursor} {i : ℕ} (w : ReadingResidues heads plans c i) where
    pub residues_done : n ≤ i → Wrote whole (Ok c) (tables_at heads plans n)
    residues_done h =
        let a = w.within in
        let same : i ≡ n = omega arith in
        rw same at (loop_done put_residue (residue B) s n whole i c (tables_at heads plans i) w.rest h)

    module _ (h : i < n) {st : Result Cursor Refusal} {heads' plans' : List ℕ}
        (one : Wrote (into1 put_residue (residue B s (position c)) (tables_at heads plans i)) st (tables_at heads' plans' (i + 1))) where
      pub residues_refused : {z : Refusal} → st ≡ Err z → (U : Tables) → Wrote whole (Err z) U
      residues_refused q U = loop_refused put_residue (residue B) s n whole i c (tables_at heads plans i) w.rest h one q U

      pub residues_next : {c' : Cursor} → st ≡ Ok c' → length heads' ≡ length heads → length plans' ≡ length plans → ReadingResidues heads' plans' c' (i + 1)
      residues_next q a b =
          record {
            within = omega arith;
            long = a ∙ w.long;
            long_plans = b ∙ w.long_plans;
            rest = loop_next put_residue (residue B) s n whole i c (tables_at heads plans i) w.rest h one q;
          }

pub ruleset residues_laws = (rules, residues_start, residues_done)
