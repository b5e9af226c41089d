-- A loop that reads n items and fills a buffer row by row, `size` numbers a row, from place `at` on. Assumes nothing.
use Rattle.std.specs.Prelude.{Result, Ok, Err}
use Prim.Native.Nat.{ℕ, ◌+◌, ◌*◌, ◌≤◌, ◌<◌}
use native.Mathlib.Nat.{add-zero, mul-zero}
use native.Mathlib.Omega.{arith}
use mathlib.Core.List.{List}
use mathlib.Core.Path.{◌≡◌, refl, ap, ◌∙◌}
use lib.ListN.{length}
use Rattle.reading.specs.Reader.{Reader, many, into, into1}
use Rattle.reading.specs.Inner.Table.{Table, table, put_row}
use Rattle.bits.specs.declared.Cursor.{Cursor}
use Rattle.bits.specs.declared.refusal.Refusal.{Refusal}
use Rattle.bits.specs.Inner.Cursors.{position, Wrote}
use Rattle.bits.proofs.Steps.{Rest, loop_start, loop_next, loop_refused, loop_done}

-- i of n items are read and their rows written
pub record Filling {A : Type 0} (row : A → List ℕ) (r : Reader A) (s : List ℕ) (n size : ℕ) (entry : List ℕ) (at : ℕ) (from : Cursor) (now : List ℕ) (c : Cursor) (i : ℕ) : Type 0 where
  pub within : i ≤ n
  pub long : length now ≡ length entry
  pub rest : Rest (put_row row) r s n (into (put_row row) (many r n s (position from)) (table entry at)) i c (table now (at + size * i))

module _ {A : Type 0} {row : A → List ℕ} {r : Reader A} {s : List ℕ} {n size : ℕ} {entry : List ℕ} {at : ℕ} {from : Cursor} where
  pub fill_start : Filling row r s n size entry at from entry from 0
  fill_start =
      let e : at ≡ at + size * 0 = rw (mul-zero, add-zero) in
      record {
        within = omega arith;
        long = refl;
        rest = loop_start (put_row row) r s n _ from (table entry (at + size * 0)) (ap (λ (p : ℕ). into (put_row row) (many r n s (position from)) (table entry p)) e);
      }

  module _ {now : List ℕ} {c : Cursor} {i : ℕ} (f : Filling row r s n size entry at from now c i) where
    module _ {now' : List ℕ} {p q : ℕ} {st : Result Cursor Refusal} (h : i < n) (one : Wrote (into1 (put_row row) (r s (position c)) (table now p)) st (table now' q)) (e : at + size * i ≡ p) where
      pub fill_next : {c' : Cursor} → length now' ≡ length now → q ≡ at + size * (i + 1) → st ≡ Ok c' → Filling row r s n size entry at from now' c' (i + 1)
      fill_next {c'} l g t =
          record {
            within = omega arith;
            long = l ∙ f.long;
            rest = rw (← g) (loop_next (put_row row) r s n _ i c (table now p) (rw e at f.rest) h one t);
          }

      pub fill_refused : {z : Refusal} → st ≡ Err z → (u : Table) → Wrote (into (put_row row) (many r n s (position from)) (table entry at)) (Err z) u
      fill_refused t u = loop_refused (put_row row) r s n _ i c (table now p) (rw e at f.rest) h one t u

    pub fill_done : {q : ℕ} → n ≤ i → at + size * i ≡ q → Wrote (into (put_row row) (many r n s (position from)) (table entry at)) (Ok c) (table now q)
    fill_done h e = loop_done (put_row row) r s n _ i c (table now _) (rw e at f.rest) h
