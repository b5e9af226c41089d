-- The loops that read one part of a mapping into its part of the row: i items are done, and what is left to read from here, written from place
-- `at` on, is the whole. Assumes nothing.
use Rattle.std.specs.Prelude.{Result, Ok, Err}
use Prim.Native.Nat.{ℕ, ◌+◌, ◌≤◌, ◌<◌}
use mathlib.Core.List.{List}
use mathlib.Core.Path.{◌≡◌, refl, ap, subst}
use lib.Seq.{sets}
use Rattle.reading.specs.Outcome.{Outcome}
use Rattle.reading.specs.Lists.{rows}
use Rattle.reading.specs.Reader.{Reader, many, mapped, puts, into, into1}
use Rattle.reading.specs.Inner.Table.{Table, table, put_row}
use Rattle.reading.proofs.Tables.{puts-rows}
use Rattle.bits.specs.declared.Cursor.{Cursor}
use Rattle.bits.specs.declared.refusal.Refusal.{Refusal}
use Rattle.bits.specs.Inner.Cursors.{position, Wrote}
use Rattle.bits.proofs.Steps.{Rest, loop_start, loop_next, loop_refused, loop_done}
use Rattle.bits.proofs.Written.{wrote_through}

module _ {A : Type 0} (row : A → List ℕ) (r : Reader A) (s : List ℕ) (n : ℕ) (k₀ : Cursor) (entry : List ℕ) (b : ℕ) where
  abbrev whole : Outcome (Table × ℕ)
  whole = into (put_row row) (many r n s (position k₀)) (table entry b)

  abbrev pub Filling : ℕ → Cursor → List ℕ → ℕ → Type 0
  Filling i k cells at = Rest (put_row row) r s n whole i k (table cells at)

  -- of the table that the loop fills, its cells
  told : {st : Result Cursor Refusal} {t : Table} → Wrote whole st t → Wrote (mapped (λ l. sets entry b (rows row l)) (many r n s (position k₀))) st t.cells
  unfolding into
  told w =
      wrote_through (λ l. puts (put_row row) l (table entry b)) (λ (t : Table). t.cells) (λ l. sets entry b (rows row l))
      (λ l. ap (λ (t : Table). t.cells) (puts-rows row l entry b)) (many r n s (position k₀)) w

  pub fill_start : Filling 0 k₀ entry b
  fill_start = loop_start _ _ _ _ _ k₀ _ refl

  module _ (i : ℕ) (k : Cursor) (cells : List ℕ) (at : ℕ) (w : Filling i k cells at) where
    pub fill_done : n ≤ i → Wrote (mapped (λ l. sets entry b (rows row l)) (many r n s (position k₀))) (Ok k) cells
    fill_done h = told (loop_done _ _ _ _ _ i k _ w h)

    module _ (h : i < n) {st : Result Cursor Refusal} {cells' : List ℕ} {at' : ℕ} (one : Wrote (into1 (put_row row) (r s (position k)) (table cells at)) st (table cells' at')) where
      pub fill_refused : {z : Refusal} → st ≡ Err z → (u : List ℕ) → Wrote (mapped (λ l. sets entry b (rows row l)) (many r n s (position k₀))) (Err z) u
      fill_refused q u = told (loop_refused _ _ _ _ _ i k _ w h one q (table u 0))

      pub fill_next : {k' : Cursor} → st ≡ Ok k' → {next : ℕ} → at' ≡ next → Filling (i + 1) k' cells' next
      fill_next {k'} q e = subst (λ (a : ℕ). Filling (i + 1) k' cells' a) e (loop_next _ _ _ _ _ i k _ w h one q)
