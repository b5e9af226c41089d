-- Laws of reading one value and a class value, as the code asks them. Assumes nothing.
use Rattle.std.specs.Prelude.{Result, Ok, Err}
use Prim.Native.Nat.{ℕ, ◌+◌, ◌-◌, ◌*◌, ◌≤◌, ◌<◌}
use native.Mathlib.Omega.{arith}
use borrow.Author.Tests.{eq-eqb, ne_eqb}
use mathlib.Core.List.{List}
use mathlib.Core.Path.{◌≡◌, sym, ◌∙◌}
use lib.ListN.{get_or, set, drop, length-take}
use Rattle.reading.specs.Outcome.{ok}
use Rattle.reading.specs.Reader.{mapped, into1}
use Rattle.reading.specs.Inner.Table.{Table, table, put_row}
use Rattle.bits.specs.declared.Cursor.{Cursor}
use Rattle.bits.specs.declared.refusal.Refusal.{Refusal}
use Rattle.bits.specs.Inner.Cursors.{position, outcome, Wrote}
use Rattle.bits.proofs.Answers.{value_is, refused_is}
use Rattle.bits.proofs.Steps.{wrote_refused, wrote_next}
use Rattle.codeword.specs.Codeword.{codeword}
use Rattle.codeword.proofs.Laws.{read_used}
use Rattle.book.specs.Layout.{entries_at, first_entry_at}
use Rattle.book_codeword.specs.Inner.Stored.{lengths_in, entries_of, BookStored}
use Rattle.numbers.specs.Inner.Cell.{cell}
use Rattle.floor.specs.Inner.Decode.{class_at}
use Rattle.floor.proofs.ValidLaws.{master_most}
use Rattle.floor_partition.specs.Partition.{class_value, value}
use Rattle.floor_partition.specs.Inner.Stored.{class_in, Readable, PlaceStored, ClassStored}
use Rattle.floor.specs.Layout.{floor_width}

-- an entry that is read of a readable book fits 16 bits
pub entry_small : {books lengths codewords : List ℕ} {b : ℕ} → Readable books lengths codewords b → (s : List ℕ) (k v n : ℕ)
    → codeword (entries_of books b lengths) s k ≡ ok (v, n) → v < 65536
entry_small {books} {lengths} {codewords} {b} l s k v n e =
    let u = (read_used (entries_of books b lengths) s k v n e).0 in
    let t = length-take (entries_at books b) (drop (first_entry_at books b) lengths) in
    let f = l.few in
    omega arith

-- one value, at place `at` of the list
module _ {books lengths codewords : List ℕ} {place : ℕ} (l : PlaceStored books lengths codewords place) (s : List ℕ) (k : Cursor) where
  pub value_none : (list : List ℕ) (at : ℕ) → place ≡ 0 → (list' : List ℕ) → list' ≡ set list at 0
      → Wrote (into1 (put_row cell) (value (lengths_in books lengths) place s (position k)) (table list at)) (Ok k) (table list' (at + 1))
  unfolding into1 mapped put_row cell value
  value_none list at z list' e = wrote_next (rw (eq-eqb _ _ z, e))

  module _ (some : place ≡ 0 → ⊥) where
    pub value_stored : BookStored books lengths codewords (place - 1)
    value_stored = (l.readable some).stored

    module _ (r : Result (ℕ × Cursor) Refusal) (p : outcome r ≡ codeword (entries_of books (place - 1) lengths) s (position k)) where
      pub value_cut : {z : Refusal} → r ≡ Err z → (list : List ℕ) (at : ℕ) (u : Table)
          → Wrote (into1 (put_row cell) (value (lengths_in books lengths) place s (position k)) (table list at)) (Err z) u
      unfolding into1 mapped value lengths_in
      value_cut q list at u = let e = refused_is p q in wrote_refused u (rw (ne_eqb _ _ some, e))

      module _ {v : ℕ} {k₁ : Cursor} (q : r ≡ Ok (v, k₁)) where
        pub value_fits : v < 65536
        value_fits = entry_small (l.readable some) s (position k) v (position k₁) (value_is p q)

        pub value_read : (list : List ℕ) (at : ℕ) (list' : List ℕ) → list' ≡ set list at v
            → Wrote (into1 (put_row cell) (value (lengths_in books lengths) place s (position k)) (table list at)) (Ok k₁) (table list' (at + 1))
        unfolding into1 mapped put_row cell value lengths_in
        value_read list at list' g = let e = value_is p q in wrote_next (rw (ne_eqb _ _ some, e, g))

-- the class value
module _ {floors books lengths codewords : List ℕ} {n c : ℕ} (l : ClassStored floors books lengths codewords n c) {sub : ℕ} (e : sub ≡ get_or floors (floor_width * n + 36 + 11 * c + 1) 0) where
  pub class_none : (s : List ℕ) (k : Cursor) → sub ≡ 0 → outcome (Ok (0, k)) ≡ class_value (lengths_in books lengths) (class_in floors n c) s (position k)
  unfolding outcome class_value class_in class_at
  class_none s k z = rw (eq-eqb _ _ (sym e ∙ z))

  module _ (some : sub ≡ 0 → ⊥) {m : ℕ} (e₂ : m ≡ get_or floors (floor_width * n + 36 + 11 * c + 2) 0) where
    pub master_low : 1 ≤ m
    unfolding class_in class_at
    master_low = rw e₂ (l.valid.carried.some_master (λ z. some (e ∙ z)))

    master_high : m ≤ l.count
    unfolding class_in class_at
    master_high = rw e₂ (master_most l.valid)

    pub master_stored : BookStored books lengths codewords (m - 1)
    master_stored = let a = master_low in let b = master_high in (l.readable (m - 1) (omega arith)).stored

    pub class_read : (s : List ℕ) (k : Cursor) (r : Result (ℕ × Cursor) Refusal) → outcome r ≡ codeword (entries_of books (m - 1) lengths) s (position k)
        → outcome r ≡ class_value (lengths_in books lengths) (class_in floors n c) s (position k)
    unfolding class_value class_in class_at lengths_in
    class_read s k r p = rw (ne_eqb _ _ (λ z. some (e ∙ z)), ← e₂) p
