-- A row that was made of a mapping's counts and parts is the mapping's row. Assumes nothing.
use Rattle.std.specs.Prelude.{Result, Ok}
use Prim.Native.Nat.{ℕ, ◌+◌, ◌/◌, ◌%◌, ◌≤◌}
use native.Mathlib.Omega.{arith}
use mathlib.Core.Bool.{Bool, true, false, cond}
use mathlib.Core.List.{List}
use mathlib.Core.Path.{◌≡◌, sym, ap, ◌∙◌}
use lib.Dec.{leb}
use lib.ListN.{set, replicate}
use lib.Seq.{sets}
use Rattle.reading.specs.Reader.{mapped, into1}
use Rattle.reading.specs.Inner.Table.{table, put_row}
use Rattle.bits.specs.declared.Cursor.{Cursor}
use Rattle.bits.specs.declared.refusal.Refusal.{Refusal}
use Rattle.bits.specs.Inner.Cursors.{position, Wrote}
use Rattle.bits.proofs.Steps.{wrote_next}
use Rattle.bits.proofs.Written.{got}
use Rattle.mapping.specs.declared.Known.{Known}
use Rattle.mapping.specs.Reading.{parts}
use Rattle.mapping.specs.Layout.{mapping_row, parts_into, mapping_width}
use Rattle.mapping.proofs.SizeLaws.{parts_sizes}
use Rattle.mapping.proofs.RowLaws.{mapping_wide, row_made}

size_most : (t : Bool) (channels : ℕ) → channels ≤ 255 → cond t 0 channels ≤ 256
size_most true channels h = omega arith
size_most false channels h = omega arith

-- a mapping after its counts, its row made and then written
module _ (known : Known) (submaps steps : ℕ) (s : List ℕ) (k : Cursor) (row : List ℕ) {row' : List ℕ} {r : Result Cursor Refusal} (p : Wrote (mapped (parts_into row) (parts known submaps steps s (position k))) r row') where
  pub row_whole : {k' : Cursor} → r ≡ Ok k' → known.channels ≤ 255 → steps ≤ 256 → row ≡ set (set (set (replicate mapping_width 0) 0 (steps % 256)) 1 (steps / 256)) 2 submaps
      → (cells : List ℕ) (i : ℕ) {cells' : List ℕ} → cells' ≡ sets cells i row' → Wrote (into1 (put_row mapping_row) (parts known submaps steps s (position k)) (table cells i)) (Ok k') (table cells' (i + mapping_width))
  unfolding into1 mapped put_row
  row_whole q h m f cells i g =
      let a = got (parts_into row) (parts known submaps steps s (position k)) p q in
      let z = parts_sizes known submaps steps s (position k) a.read in
      let l = z.multiplex in
      let n = size_most (leb submaps 1) known.channels h in
      let made : mapping_row a.value ≡ row' = sym (row_made a.value submaps steps z.couplings z.submaps m (omega arith)) ∙ ap (λ (t : List ℕ). parts_into t a.value) (sym f) ∙ a.made in
      wrote_next (rw (g, a.read, mapping_wide a.value, made))
