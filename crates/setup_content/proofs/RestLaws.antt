-- Laws of what follows the books, as the code asks them: the counts, tables that are cleared before they are filled, and the framing bit. Assumes nothing.
use Rattle.std.specs.Prelude.{Result, Ok, Err}
use Prim.Native.Nat.{ℕ}
use borrow.Author.Rules.{rules}
use mathlib.Core.List.{List, [], ◌∷◌}
use mathlib.Core.Path.{◌≡◌, ap, ◌∙◌}
use lib.ListN.{length, replicate}
use lib.Seq.{sets}
use Rattle.reading.specs.Outcome.{ok, then}
use Rattle.reading.specs.Pad.{pad}
use Rattle.reading.proofs.Tables.{sets_cleared}
use Rattle.bits.specs.declared.Cursor.{Cursor}
use Rattle.bits.specs.declared.refusal.Refusal.{Refusal}
use Rattle.bits.specs.Inner.Cursors.{position, outcome, stepped}
use Rattle.bits.proofs.Answers.{value_is, refused_is}
use Rattle.header.specs.Header.{framing}
use Rattle.residue.specs.Reading.{Books}
use Rattle.setup.specs.Inner.Parts.{ReadInto, ReadCounted, AfterBooksStored, RestStored, after_books, rest_part}
use Rattle.setup_buffers.specs.Inner.Blank.{Blank}
use Rattle.setup_buffers.proofs.BlankLaws.{pad_to_buffer}
use Rattle.setup.proofs.ReadIntoLaws.{read_into_refused, counted_bad, counted_ok}
use Rattle.setup_sections.specs.declared.parts.After.{After}
use Rattle.setup_sections.proofs.PartLaws.{skipped}

-- a row at the front of a table that was cleared
pub counts_written : (c : List ℕ) {c₁ c' : List ℕ} (row : List ℕ) → c₁ ≡ replicate (length c) 0 → c' ≡ sets c₁ 0 row → c' ≡ pad (length c) row
counts_written c row e q = q ∙ ap (λ (z : List ℕ). sets z 0 row) e ∙ sets_cleared (length c) row

-- what lies in tables that were cleared lies in the tables that were lent
module _ (channels : ℕ) (books : Books) (s : List ℕ) (k : Cursor) {st : Result (After × Cursor) Refusal} {f r p a o f₁ f' r₁ r' p₁ p' a₁ a' o₁ o' : List ℕ} where
  pub after_cleared : Blank f f₁ → Blank r r₁ → Blank p p₁ → Blank a a₁ → Blank o o₁
      → ReadCounted (after_books channels books s (position k)) st (λ n. AfterBooksStored n.floors n.residues n.mappings n.modes f₁ f' r₁ r' p₁ p' a₁ a' o₁ o')
      → ReadCounted (after_books channels books s (position k)) st (λ n. AfterBooksStored n.floors n.residues n.mappings n.modes f f' r r' p p' a a' o o')
  after_cleared e0 e1 e2 e3 e4 h =
      record {
        step = h.step;
        stored = λ n c q x g.
            let b = h.stored n c q x g in
            let u = b.floor_part_is in
            let t = b.mapping_part_is in
            record {
              floor_part_is = record {
                floor_rows = record { count = u.floor_rows.count; cells = pad_to_buffer _ e0 u.floor_rows.cells };
                residue_rows = record { count = u.residue_rows.count; residues = pad_to_buffer _ e1 u.residue_rows.residues; plans = pad_to_buffer _ e2 u.residue_rows.plans };
              };
              mapping_part_is = record {
                mapping_rows = record { count = t.mapping_rows.count; cells = pad_to_buffer _ e3 t.mapping_rows.cells };
                mode_rows = record { count = t.mode_rows.count; cells = pad_to_buffer _ e4 t.mode_rows.cells };
              };
            };
      }

-- the framing bit, of which the position stays
module _ (s : List ℕ) (k : Cursor) {r : Result (ℕ × Cursor) Refusal} (p : outcome r ≡ framing s (position k)) where
  pub framing_bad : {z : Refusal} → r ≡ Err z → stepped (Err z) ≡ then (framing s (position k)) (λ x. ok x.1)
  unfolding stepped
  framing_bad q = rw (refused_is p q)

  pub framing_set : {v : ℕ} {c : Cursor} → r ≡ Ok (v, c) → stepped (Ok c) ≡ then (framing s (position k)) (λ x. ok x.1)
  unfolding stepped
  framing_set q = rw (value_is p q)

pub ruleset framing_laws = (rules, framing_bad, framing_set)

-- what follows the books
module _ (channels : ℕ) (books : Books) (s : List ℕ) (k : Cursor) where
  pub rest_refused : {z : Refusal} {L : _ → Type 0} {M : After → _ → Type 0} → ReadCounted (after_books channels books s (position k)) (Err z) M → ReadInto (rest_part channels books s (position k)) (Err z) L
  unfolding rest_part
  rest_refused h = read_into_refused (rw (counted_bad h))

  pub rest_read : {m : After} {at : Cursor} {f f' r r' p p' a a' o o' : List ℕ}
      → ReadCounted (after_books channels books s (position k)) (Ok (m, at)) (λ n. AfterBooksStored n.floors n.residues n.mappings n.modes f f' r r' p p' a a' o o')
      → {n : ℕ} {c c' : List ℕ} (answer : Result Cursor Refusal) → c' ≡ pad (length c) (n ∷ m.floors ∷ m.residues ∷ m.mappings ∷ m.modes ∷ [])
      → stepped answer ≡ then (framing s (position at)) (λ x. ok x.1)
      → ReadInto (rest_part channels books s (position k)) answer (RestStored n c c' f f' r r' p p' a a' o o')
  unfolding rest_part
  rest_read {m} {at} h {n} {c} {c'} answer e g =
      let x = counted_ok h in
      let u = x.2.floor_part_is in
      let t = x.2.mapping_part_is in
      let numbers : (n ∷ m.floors ∷ m.residues ∷ m.mappings ∷ m.modes ∷ []) ≡ (n ∷ length x.0.0.0 ∷ length x.0.0.1 ∷ length x.0.1.0 ∷ length x.0.1.1 ∷ [])
      = λ j. n ∷ u.floor_rows.count j ∷ u.residue_rows.count j ∷ t.mapping_rows.count j ∷ t.mode_rows.count j ∷ [] in
      rw x.1
      (skipped x.0 (framing s (position at))
      (record {
        counts = e ∙ ap (pad (length c)) numbers;
        floors = u.floor_rows.cells;
        residues = u.residue_rows.residues;
        plans = u.residue_rows.plans;
        mappings = t.mapping_rows.cells;
        modes = t.mode_rows.cells;
      })
      g)
