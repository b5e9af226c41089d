-- Laws of reading a class, as the code asks them: one for each way out of a function. Assumes nothing.
use Rattle.std.specs.Prelude.{Result, Ok, Err}
use Prim.Native.Nat.{ℕ, ◌+◌, ◌^◌, ◌≤◌, ◌<◌}
use native.Mathlib.Numerals.{add-one}
use native.Mathlib.Omega.{arith}
use borrow.Author.Rules.{rules}
use borrow.Author.Tests.{lt-ltb, le-ltb, le-leb, lt-leb, eq-eqb, ne_eqb}
use mathlib.Core.List.{List, [], ◌∷◌, ◌++◌}
use mathlib.Core.Path.{◌≡◌, refl, sym, ap, ◌∙◌}
use lib.ListN.{length, set, replicate}
use lib.Pow.{pow_mono}
use lib.Seq.{sets}
use Rattle.reading.specs.Outcome.{Outcome, ok, bad, then}
use Rattle.reading.specs.Reader.{many, mapped, into, into1}
use Rattle.reading.specs.Pad.{pad}
use Rattle.reading.specs.Inner.Table.{Table, table, put_row}
use Rattle.reading.proofs.Pads.{pad_nil, length-pad}
use Rattle.reading.proofs.Readers.{mapped_bad}
use Rattle.bits.specs.declared.Cursor.{Cursor}
use Rattle.bits.specs.declared.refusal.Refusal.{Refusal}
use Rattle.bits.specs.declared.refusal.Reason.TheVariants as R
use Rattle.bits.specs.Inner.Cursors.{position, outcome, Wrote}
use Rattle.bits.specs.Field.{field}
use Rattle.bits.proofs.Answers.{value_is, refused_is, value_below}
use Rattle.bits.proofs.Steps.{wrote_refused, wrote_next, wrote_bad}
use Rattle.numbers.specs.Inner.Cell.{cell}
use Rattle.numbers.proofs.Collected.{collected, rows_cell, wrote_as}
use Rattle.floor.specs.Layout.{class_row}
use Rattle.floor.specs.ClassReading.{master_book, subclass_book, class}
use Rattle.floor.proofs.ClassAccepted.{master_ok}
use Rattle.floor_class.specs.Inner.Pieces.{class_row_of}

abbrev not_set_up : Cursor → Refusal
not_set_up c = record { reason = R.NotSetUp; place = c }

-- the master book
module _ (books subclasses : ℕ) (s : List ℕ) (k : Cursor) where
  pub master_none : subclasses ≡ 0 → outcome (Ok (0, k)) ≡ master_book books subclasses s (position k)
  unfolding master_book outcome
  master_none e = rw (eq-eqb _ _ e)

  module _ (some : subclasses ≡ 0 → ⊥) {r : Result (ℕ × Cursor) Refusal} (p : outcome r ≡ field 8 s (position k)) where
    pub master_cut : {z : Refusal} → r ≡ Err z → outcome (Err z) ≡ master_book books subclasses s (position k)
    unfolding master_book outcome mapped
    master_cut q = rw (ne_eqb _ _ some, refused_is p q)

    module _ {v : ℕ} {k₁ : Cursor} (q : r ≡ Ok (v, k₁)) where
      pub master_unset : books ≤ v → outcome (Err (not_set_up k)) ≡ master_book books subclasses s (position k)
      unfolding master_book outcome mapped
      master_unset h = rw (ne_eqb _ _ some, value_is p q, le-ltb _ _ h)

      pub master_set : v < books → outcome (Ok ((v + 1), k₁)) ≡ master_book books subclasses s (position k)
      unfolding master_book outcome mapped
      master_set h = rw (ne_eqb _ _ some, value_is p q, lt-ltb _ _ h, add-one)

-- a subclass book
module _ (books : ℕ) (s : List ℕ) (k : Cursor) {r : Result (ℕ × Cursor) Refusal} (p : outcome r ≡ field 8 s (position k)) where
  pub book_cut : (l : List ℕ) (i : ℕ) {z : Refusal} → r ≡ Err z → Wrote (into1 (put_row cell) (subclass_book books s (position k)) (table l i)) (Err z) (table l (i + 1))
  unfolding into1 mapped subclass_book
  book_cut l i q = wrote_refused _ (rw (refused_is p q))

  module _ {v : ℕ} {k₁ : Cursor} (q : r ≡ Ok (v, k₁)) where
    pub book_fits : v < 65536
    book_fits = let h = value_below 8 s (position k) p q in omega arith

    pub book_unset : (l : List ℕ) (i : ℕ) → books < v → Wrote (into1 (put_row cell) (subclass_book books s (position k)) (table l i)) (Err (not_set_up k)) (table l (i + 1))
    unfolding into1 mapped subclass_book
    book_unset l i h = wrote_refused _ (rw (value_is p q, lt-leb _ _ h))

    pub book_set : (l : List ℕ) (i : ℕ) → v ≤ books → (l' : List ℕ) → l' ≡ set l i v
        → Wrote (into1 (put_row cell) (subclass_book books s (position k)) (table l i)) (Ok k₁) (table l' (i + 1))
    unfolding into1 mapped put_row cell subclass_book
    book_set l i h l' f = wrote_next (rw (value_is p q, le-leb _ _ h, f))

pub ruleset book_laws = (rules, book_cut, book_fits, book_unset, book_set)

-- a class's row
pub subclasses_few : (e : ℕ) {n : ℕ} → n ≡ 2 ^ e → e ≤ 3 → n ≤ 8
subclasses_few e p h = rw p (pow_mono h)

row_made : (d e m : ℕ) (entry : List ℕ) (i : ℕ) (o : Outcome (List ℕ × ℕ)) (items : List ℕ) (c : Cursor) → o ≡ ok (items, position c) → {l : List ℕ} → l ≡ pad 8 items
    → {l' : List ℕ} → l' ≡ sets entry i ((d ∷ e ∷ m ∷ []) ++ l)
    → Wrote (into1 (put_row (class_row_of d e m)) o (table entry i)) (Ok c) (table l' (i + 11))
unfolding into1 mapped put_row class_row_of class_row
row_made d e m entry i o items c g h f =
    let z = length-pad 8 items in
    let y : 11 ≡ length (d ∷ e ∷ m ∷ pad 8 items) = omega arith in
    wrote_next (rw (g, f, h, y))

module _ (books : ℕ) (s : List ℕ) (k : Cursor) (d e m : ℕ) (entry : List ℕ) (i : ℕ) {n : ℕ} (power : n ≡ 2 ^ e) {st : Result Cursor Refusal} {l : List ℕ} {q : ℕ}
    (w : Wrote (into (put_row cell) (many (subclass_book books) n s (position k)) (table (replicate 8 0) 0)) st (table l q)) where
  pub row_refused : {z : Refusal} → st ≡ Err z → (u : Table) → Wrote (into1 (put_row (class_row_of d e m)) (many (subclass_book books) (2 ^ e) s (position k)) (table entry i)) (Err z) u
  unfolding into into1 mapped
  row_refused {z} t u = wrote_refused u (rw (← power, mapped_bad _ (many (subclass_book books) n s (position k)) (wrote_bad w t)))

  pub row_read : {c : Cursor} → st ≡ Ok c → (l' : List ℕ) → l' ≡ sets entry i ((d ∷ e ∷ m ∷ []) ++ l)
      → Wrote (into1 (put_row (class_row_of d e m)) (many (subclass_book books) (2 ^ e) s (position k)) (table entry i)) (Ok c) (table l' (i + 11))
  row_read {c} t l' f =
      let g = collected cell (subclass_book books) n s (position k) (replicate 8 0) 0 8 [] (sym (pad_nil 8)) refl w t in
      row_made d e m entry i (many (subclass_book books) (2 ^ e) s (position k)) g.items c
      (ap (λ (j : ℕ). many (subclass_book books) j s (position k)) (sym power) ∙ g.read)
      (g.holds ∙ ap (pad 8) (rows_cell g.items)) f

pub ruleset row_laws = (rules, subclasses_few, row_refused, row_read)

-- the fields before it
module _ (books : ℕ) (s : List ℕ) (k : Cursor) (entry : List ℕ) (i : ℕ) {r₁ : Result (ℕ × Cursor) Refusal} (p₁ : outcome r₁ ≡ field 3 s (position k)) where
  pub class_cut₁ : {z : Refusal} → r₁ ≡ Err z → (u : Table) → Wrote (into1 (put_row class_row) (class books s (position k)) (table entry i)) (Err z) u
  unfolding into1 mapped class
  class_cut₁ q u = wrote_refused u (rw (refused_is p₁ q))

  module _ {d : ℕ} {k₁ : Cursor} (q₁ : r₁ ≡ Ok (d, k₁)) where
    pub dimensions_most : d + 1 ≤ 8
    dimensions_most = let h = value_below 3 s (position k) p₁ q₁ in omega arith

    module _ {r₂ : Result (ℕ × Cursor) Refusal} (p₂ : outcome r₂ ≡ field 2 s (position k₁)) where
      pub class_cut₂ : {z : Refusal} → r₂ ≡ Err z → (u : Table) → Wrote (into1 (put_row class_row) (class books s (position k)) (table entry i)) (Err z) u
      unfolding into1 mapped class
      class_cut₂ q u = wrote_refused u (rw (value_is p₁ q₁, refused_is p₂ q))

      module _ {e : ℕ} {k₂ : Cursor} (q₂ : r₂ ≡ Ok (e, k₂)) where
        pub subclasses_most : e ≤ 3
        subclasses_most = let h = value_below 2 s (position k₁) p₂ q₂ in omega arith

        module _ {r₃ : Result (ℕ × Cursor) Refusal} (p₃ : outcome r₃ ≡ master_book books e s (position k₂)) where
          pub class_cut₃ : {z : Refusal} → r₃ ≡ Err z → (u : Table) → Wrote (into1 (put_row class_row) (class books s (position k)) (table entry i)) (Err z) u
          unfolding into1 mapped class
          class_cut₃ q u = wrote_refused u (rw (value_is p₁ q₁, value_is p₂ q₂, refused_is p₃ q))

          module _ {m : ℕ} {k₃ : Cursor} (q₃ : r₃ ≡ Ok (m, k₃)) where
            pub master_most : books ≤ 256 → m ≤ 256
            master_most h = let f = master_ok books e s (position k₂) (value_is p₃ q₃) in let g = f.2 in omega arith

            same_row : (o : Outcome (List ℕ × ℕ)) (t : Table)
                → into1 (put_row (class_row_of (d + 1) e m)) o t ≡ into1 (put_row class_row) (then o (λ list. ok (record { dimensions = d + 1; subclasses = e; master = m; books = list.0 }, list.1))) t
            unfolding into1 mapped put_row class_row_of
            same_row (ok x) t = refl
            same_row (bad z) t = refl

            pub class_read : {st : Result Cursor Refusal} {u : Table} → Wrote (into1 (put_row (class_row_of (d + 1) e m)) (many (subclass_book books) (2 ^ e) s (position k₃)) (table entry i)) st u
                → Wrote (into1 (put_row class_row) (class books s (position k)) (table entry i)) st u
            unfolding class
            class_read w = rw (value_is p₁ q₁, value_is p₂ q₂, value_is p₃ q₃) (wrote_as (same_row (many (subclass_book books) (2 ^ e) s (position k₃)) (table entry i)) w)

pub ruleset class_laws = (rules, class_cut₁, class_cut₂, class_cut₃, dimensions_most, subclasses_most, master_most, class_read)
