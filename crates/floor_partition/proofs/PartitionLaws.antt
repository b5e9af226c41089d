-- Laws of reading one partition, as the code asks them. Assumes nothing.
use Rattle.std.specs.Prelude.{Result, Ok, Err}
use Prim.Native.Nat.{ℕ, ◌+◌}
use mathlib.Core.List.{List}
use mathlib.Core.Path.{◌≡◌, refl, ap, ◌∙◌}
use lib.ListN.{length}
use lib.Seq.{sets}
use Rattle.reading.specs.Outcome.{Outcome, ok, bad}
use Rattle.reading.specs.Reader.{each, mapped, into, into1}
use Rattle.reading.specs.Inner.Table.{Table, table, put_row}
use Rattle.reading.proofs.Tables.{puts-rows}
use Rattle.bits.specs.declared.Cursor.{Cursor}
use Rattle.bits.specs.declared.refusal.Refusal.{Refusal}
use Rattle.bits.specs.Inner.Cursors.{position, outcome, Wrote}
use Rattle.bits.proofs.Answers.{value_is, refused_is}
use Rattle.bits.proofs.Steps.{wrote_refused}
use Rattle.numbers.specs.Inner.Cell.{cell}
use Rattle.floor.specs.Content.{Class}
use Rattle.numbers.proofs.Collected.{rows_cell, wrote_as}
use Rattle.floor_partition.specs.Partition.{class_value, chosen, value, partition, whole}

-- numbers written one by one, and as one run
pub as_run : (o : Outcome (List ℕ × ℕ)) (l : List ℕ) (i : ℕ) → into (put_row cell) o (table l i) ≡ into1 (put_row whole) o (table l i)
unfolding into into1 mapped put_row whole
as_run (ok x) l i = ap (λ (t : Table). ok (t, x.1)) (puts-rows cell x.0 l i ∙ ap (λ (ys : List ℕ). table (sets l i ys) (i + length ys)) (rows_cell x.0))
as_run (bad z) l i = refl

-- one partition
module _ (lengths_of : ℕ → List ℕ) (c : Class) (s : List ℕ) (k : Cursor) (list : List ℕ) (at : ℕ) (r : Result (ℕ × Cursor) Refusal) (p : outcome r ≡ class_value lengths_of c s (position k)) where
  pub partition_cut : {z : Refusal} → r ≡ Err z → (u : Table) → Wrote (into1 (put_row whole) (partition lengths_of c s (position k)) (table list at)) (Err z) u
  unfolding into1 mapped partition
  partition_cut q u = wrote_refused u (rw (refused_is p q))

  pub partition_read : {v : ℕ} {k₁ : Cursor} → r ≡ Ok (v, k₁) → {st : Result Cursor Refusal} {u : Table}
      → Wrote (into (put_row cell) (each (value lengths_of) (chosen c v c.dimensions) s (position k₁)) (table list at)) st u
      → Wrote (into1 (put_row whole) (partition lengths_of c s (position k)) (table list at)) st u
  unfolding partition
  partition_read {v} {k₁} q w = rw (value_is p q) (wrote_as (as_run (each (value lengths_of) (chosen c v c.dimensions) s (position k₁)) list at) w)
