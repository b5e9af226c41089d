-- What a loop that filled a padded buffer with rows has left in it. Assumes nothing.
use Rattle.bits.specs.declared.refusal.Refusal.{Refusal}
use Rattle.std.specs.Prelude.{Result, Ok}
use Prim.Native.Nat.{ℕ, ◌+◌}
use mathlib.Core.List.{List, [], ◌∷◌, ◌++◌}
use mathlib.Core.Path.{◌≡◌, refl, sym, ap, ◌∙◌}
use lib.ListN.{length}
use lib.Seq.{sets}
use Rattle.reading.specs.Outcome.{Outcome, ok}
use Rattle.reading.specs.Reader.{Reader, many, puts, into}
use Rattle.reading.specs.Lists.{rows}
use Rattle.reading.specs.Pad.{pad}
use Rattle.reading.specs.Inner.Table.{Table, table, put_row}
use Rattle.reading.proofs.Readers.{mapped_ok}
use Rattle.reading.proofs.Tables.{puts-rows, sets-pad, sets_append}
use Rattle.reading.proofs.Accepted.{many_number}
use Rattle.bits.specs.declared.Cursor.{Cursor}
use Rattle.bits.specs.Inner.Cursors.{position, Wrote}
use Rattle.bits.proofs.Steps.{wrote_ok}
use Rattle.numbers.specs.Inner.Cell.{cell}

-- numbers as rows of their own are the numbers
pub rows_cell : (l : List ℕ) → rows cell l ≡ l
unfolding rows cell
rows_cell [] = refl
rows_cell (x ∷ l) = ap (λ (t : List ℕ). x ∷ t) (rows_cell l)

-- the outcome of a function's answer may be written in another way
pub wrote_as : {T : Type 0} {o o' : Outcome (T × ℕ)} {r : Result Cursor Refusal} {t : T} → o ≡ o' → Wrote o r t → Wrote o' r t
wrote_as e w = rw e at w

-- what was read, and what the buffer holds
pub record Collected {A : Type 0} (row : A → List ℕ) (o : Outcome (List A × ℕ)) (n : ℕ) (c : Cursor) (room : ℕ) (before l : List ℕ) : Type 0 where
  pub items : List A
  pub read : o ≡ ok (items, position c)
  pub long : length items ≡ n
  pub holds : l ≡ pad room (before ++ rows row items)

module _ {A : Type 0} (row : A → List ℕ) (o : Outcome (List A × ℕ)) (n : ℕ) where
  pub gathered : (entry : List ℕ) (at room : ℕ) (before : List ℕ) → entry ≡ pad room before → at ≡ length before
      → {st : Result Cursor Refusal} {l : List ℕ} {q : ℕ} → Wrote (into (put_row row) o (table entry at)) st (table l q)
      → ((items : List A) (k : ℕ) → o ≡ ok (items, k) → length items ≡ n)
      → {c : Cursor} → st ≡ Ok c → Collected row o n c room before l
  unfolding into
  gathered entry at room before e a {st} {l} {q} w long {c} t =
      let m = mapped_ok (λ items. puts (put_row row) items (table entry at)) o (wrote_ok w t) in
      let cells : sets entry at (rows row m.0) ≡ l = ap (λ (x : Table). x.cells) (sym (puts-rows row m.0 entry at) ∙ m.2) in
      record {
        items = m.0;
        read = m.1;
        long = long m.0 (position c) m.1;
        holds = sym cells ∙ ap (λ (x : List ℕ). sets x at (rows row m.0)) e ∙ sets-pad room (rows row m.0) before at a;
      }

-- after `many`
pub collected : {A : Type 0} (row : A → List ℕ) (r : Reader A) (n : ℕ) (s : List ℕ) (k : ℕ) (entry : List ℕ) (at room : ℕ) (before : List ℕ) → entry ≡ pad room before → at ≡ length before
    → {st : Result Cursor Refusal} {l : List ℕ} {q : ℕ} → Wrote (into (put_row row) (many r n s k) (table entry at)) st (table l q)
    → {c : Cursor} → st ≡ Ok c → Collected row (many r n s k) n c room before l
collected row r n s k entry at room before e a w t = gathered row (many r n s k) n entry at room before e a w (λ items j g. many_number r s n k g) t

-- one run of stores and then another, as the code asks it
pub two_runs : (entry : List ℕ) (at : ℕ) (first second : List ℕ) {n : ℕ} (middle last : List ℕ) → n ≡ at + length first → middle ≡ sets entry at first → last ≡ sets middle n second
    → last ≡ sets entry at (first ++ second)
two_runs entry at first second middle last n m l = l ∙ rw (n, m) (sym (sets_append first second entry at))
